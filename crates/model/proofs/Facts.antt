-- What acceptance gives: the facts of an accepted model, from the rules of its records. Assumes nothing.
use mathlib.Core.Path.{◌≡◌, refl, sym, ◌∙◌}
use mathlib.Core.Bool.{true}
use mathlib.Core.Logic.{⊎_elim}
use Prim.Native.Nat.{ℕ, ◌≤◌, ◌<◌}
use native.Mathlib.Nat.{eq-or-lt_of_le}
use native.Mathlib.Decide.{ℕ_discrete}
use native.Mathlib.Omega.{arith}
use borrow.Author.Tests.{leb-true}
use lib.Dec.{leb}
use lib.ListN.{length}
use Rattle.base.specs.Below.{all_below}
use Rattle.base.proofs.Below.{every_at, all_at, and_left, and_right, split}
use Rattle.blocks.specs.Records.{Model, signal_at, driver_at, node_at, statement_at}
use Rattle.blocks.proofs.Lookup.{signals_most, variables_most, processes_some, processes_most, drivers_most, nodes_most, statements_some, statements_most}
use Rattle.fields.specs.Fields.{owner_of, value_ok, node_ok}
use Rattle.fields.proofs.Spans.{process_fits, owner_below, owner_spans}
use Rattle.fields.proofs.NodeFields.{signal_fits, variable_fits, node_ok_lem, kind_least_lem, kind_most_lem, constant_integer, constant_logic, names_variable, names_signal, delay_most}
use Rattle.fields.proofs.StatementFields.{statement_ok_lem}
use Rattle.values.proofs.Resolution.{table_laws}
use Rattle.tables.specs.Tables.{table_of}
use Rattle.tables.proofs.Entries.{table_closed, table_symmetric, table_associative}
use Rattle.trees.specs.Trees.{integer, boolean, lower_ok, type_of, statement_typed, types_ok}
use Rattle.trees.proofs.Operands.{lower_a_lem, lower_b_lem, lower_ok_lem, size_most}
use Rattle.trees.proofs.NodeTypes.{type_integer, type_logic, type_variable, type_signal, type_not, type_logical, type_negate, type_arithmetic, type_equal, type_less, logical_known, integers_known, equal_known}
use Rattle.model.specs.Rules.{Accepted}
use Rattle.model.specs.Nulls.{null_ok, nulls_ok}
use Rattle.model.specs.Owners.{statement_owned, owners_ok}
use Rattle.model.specs.Facts.{TotalsFit, NodeFits, NodeTyped, StatementOf, Facts}
use Rattle.model.proofs.Own.{reads}
use Rattle.model.proofs.Drivers.{drives, rise, found, single, driver_process, driver_signal}
use Rattle.model.proofs.StatementFacts.{statement_fits}

-- a node that is not mistyped
module _ (M : Model) (n : ℕ) (lower : lower_ok (node_at M n) n ≡ true) (known : type_of M n ≤ 2) where
  abbrev kind : ℕ
  kind = (node_at M n).kind

  abbrev type_a : ℕ
  type_a = type_of M (node_at M n).a

  abbrev type_b : ℕ
  type_b = type_of M (node_at M n).b

  a_lower : 6 ≤ kind → (node_at M n).a < n
  a_lower = lower_a_lem (node_at M n) n lower

  b_lower : 7 ≤ kind → (kind ≡ 10 → ⊥) → (node_at M n).b < n
  b_lower = lower_b_lem (node_at M n) n lower

  logical : 7 ≤ kind → kind ≤ 9 → (type_a ≡ type_of M n) × ((type_b ≡ type_of M n) × (1 ≤ type_of M n))
  logical l h =
      logical_known type_a type_b (type_of M n) known (type_logical M n (node_at M n) refl (a_lower (omega arith)) (b_lower l (λ e. omega arith)) l h)

  logical_a_lem : 6 ≤ kind → kind ≤ 9 → (type_a ≡ type_of M n) × (1 ≤ type_of M n)
  logical_a_lem l h =
      elim (ℕ_discrete kind 6) [
        | yes e ↦ let t = logical_known type_a type_a (type_of M n) known (type_not M n (node_at M n) refl (a_lower l) e) in (t.0, t.1.1)
        | no e ↦ let t = logical (omega arith) h in (t.0, t.1.1)
      ]

  arithmetic : 11 ≤ kind → (kind ≡ 13 → ⊥) → (kind ≡ 14 → ⊥) → (type_of M n ≡ integer) × ((type_a ≡ integer) × (type_b ≡ integer))
  arithmetic l f g =
      integers_known type_a type_b (type_of M n) known integer (type_arithmetic M n (node_at M n) refl (a_lower (omega arith)) (b_lower (omega arith) (λ e. omega arith)) l f g)

  arithmetic_a_lem : 10 ≤ kind → (kind ≡ 13 → ⊥) → (kind ≡ 14 → ⊥) → (type_of M n ≡ integer) × (type_a ≡ integer)
  arithmetic_a_lem l f g =
      elim (ℕ_discrete kind 10) [
        | yes e ↦ let t = integers_known type_a type_a (type_of M n) known integer (type_negate M n (node_at M n) refl (a_lower (omega arith)) e) in (t.0, t.1.0)
        | no e ↦ let t = arithmetic (omega arith) f g in (t.0, t.1.0)
      ]

  equal : kind ≡ 13 → (type_of M n ≡ boolean) × ((type_b ≡ type_a) × (type_a ≤ 1))
  equal e =
      equal_known type_a type_b (type_of M n) known (type_equal M n (node_at M n) refl (a_lower (omega arith)) (b_lower (omega arith) (λ f. omega arith)) e)

  less : kind ≡ 14 → (type_of M n ≡ boolean) × ((type_a ≡ integer) × (type_b ≡ integer))
  less e =
      integers_known type_a type_b (type_of M n) known boolean (type_less M n (node_at M n) refl (a_lower (omega arith)) (b_lower (omega arith) (λ f. omega arith)) e)

  relation : 13 ≤ kind → kind ≤ 14 → (type_of M n ≡ boolean) × (type_b ≡ type_a)
  relation l m =
      elim (ℕ_discrete kind 13) [
        | yes e ↦ let t = equal e in (t.0, t.1.0)
        | no e ↦ let t = less (omega arith) in (t.0, t.1.1 ∙ sym t.1.0)
      ]

  node_typed : NodeTyped M n
  node_typed =
      let d = node_at M n in
      record {
        known = known;
        integer_constant = type_integer M n d refl;
        logic_constant = type_logic M n d refl;
        variable = type_variable M n d refl;
        signal = type_signal M n d refl;
        logical = λ l h. (logical_a_lem l h).1;
        logical_a = λ l h. (logical_a_lem l h).0;
        logical_b = λ l h. (logical l h).1.0;
        arithmetic = λ l f g. (arithmetic_a_lem l f g).0;
        arithmetic_a = λ l f g. (arithmetic_a_lem l f g).1;
        arithmetic_b = λ l f g. (arithmetic l f g).1.1;
        relation = λ l m. (relation l m).0;
        relation_b = λ l m. (relation l m).1;
        equal = λ e. (equal e).1.1;
        less = λ e. (less e).1.0;
      }

module _ (M : Model) (h : Accepted M) where
  totals : TotalsFit M
  totals =
      record {
        signals = signals_most M h.totals;
        variables = variables_most M h.totals;
        some_process = processes_some M h.totals;
        processes = processes_most M h.totals;
        drivers = drivers_most M h.totals;
        nodes = nodes_most M h.totals;
        some_statement = statements_some M h.totals;
        statements = statements_most M h.totals;
      }

  constant : (n : ℕ) → node_ok M (node_at M n) ≡ true → (node_at M n).kind ≤ 2 → value_ok (type_of M n) (node_at M n).k ≡ true
  constant n f l =
      let d = node_at M n in
      elim (ℕ_discrete d.kind 1) [
        | yes e ↦ rw (type_integer M n d refl e) (constant_integer M d f e)
        | no e ↦ let g : d.kind ≡ 2 = omega (arith, kind_least_lem M d f) in rw (type_logic M n d refl g) (constant_logic M d f g)
      ]

  node_fits : (n : ℕ) → n < length M.nodes → NodeFits M n
  node_fits n l =
      let d = node_at M n in
      let f = node_ok_lem M h.fields n l in
      record {
        kind_least = kind_least_lem M d f;
        kind_most = kind_most_lem M d f;
        constant = constant n f;
        variable = names_variable M d f;
        signal = names_signal M d f;
        delay = delay_most M d f;
        lower_a = lower_a_lem d n (lower_ok_lem M h.trees n l);
        lower_b = lower_b_lem d n (lower_ok_lem M h.trees n l);
        size = size_most M h.trees n l;
      }

  types_known : (n : ℕ) → n < length M.nodes → type_of M n ≤ 2
  unfolding types_ok
  types_known n l = leb-true _ 2 (all_at (λ i. leb (type_of M i) 2) _ n l (and_left (all_below (λ i. leb (type_of M i) 2) (length M.nodes)) _ h.types))

  statement : (n : ℕ) → n < length M.statements → StatementOf M n
  unfolding types_ok owners_ok nulls_ok
  statement n l =
      let o = owner_below M h.fields n l (processes_some M h.totals) in
      record {
        owner = o;
        spans = owner_spans M h.fields n o;
        fits =
            statement_fits M n (statement_at M n)
            (statement_ok_lem M n h.fields l)
            (all_at (λ i. statement_typed M (statement_at M i)) _ n l (and_right (all_below (λ i. leb (type_of M i) 2) (length M.nodes)) _ h.types))
            (all_at (λ i. statement_owned M (owner_of M i) (statement_at M i)) _ n l (every_at _ 2 h.owners))
            (all_at (λ i. null_ok M (statement_at M i)) _ n l h.nulls);
      }

  one_driver : (i j : ℕ) → i < length M.drivers → j < length M.drivers → (driver_at M i).signal ≡ (driver_at M j).signal → (signal_at M (driver_at M i).signal).ty ≡ integer → i ≡ j
  one_driver i j k l e t =
      ⊎_elim (λ (u : i < j). absurd (single M h.owners i j u l (driver_signal M h.fields j l) e (rw e at t)))
      (λ (u : j ≤ i).
      ⊎_elim (λ (v : j ≡ i). sym v) (λ (v : j < i). absurd (single M h.owners j i v k (driver_signal M h.fields i k) (sym e) t)) (eq-or-lt_of_le u))
      (split i j)

  pub facts : Facts M
  facts =
      record {
        totals = totals;
        pairs = (table_laws (table_of M)).pairs (table_closed M h.totals h.fields) (table_symmetric M h.symmetric) (table_associative M h.associative);
        signal = signal_fits M h.fields;
        variable = variable_fits M h.fields;
        process = process_fits M h.fields;
        driver = λ k l. record { process = driver_process M h.fields k l; signal = driver_signal M h.fields k l; found = found M h.owners k l };
        drives = drives M;
        rise = rise M h.owners;
        single = one_driver;
        node = node_fits;
        typed = λ n l. node_typed M n (lower_ok_lem M h.trees n l) (types_known n l);
        reads = λ p n l. reads M p n (lower_ok_lem M h.trees n l);
        statement = statement;
      }
