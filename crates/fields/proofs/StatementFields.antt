-- The laws of statement fields: what rule 5 says of a statement by its kind. Assumes nothing.
use mathlib.Core.Path.{◌≡◌, refl}
use mathlib.Core.Bool.{true, false≢true}
use mathlib.Core.Logic.{◌⊎◌, ⊎_elim}
use Prim.Native.Nat.{ℕ, ◌^◌, ◌≤◌, ◌<◌}
use native.Mathlib.Omega.{arith}
use borrow.Author.Tests.{ne_eqb, ltb-true, leb-true, eqb-true}
use lib.Dec.{eqb, leb}
use lib.ListN.{length}
use Rattle.base.proofs.Below.{every_at, all_at, among, and_left, and_right, split, or_cases}
use Rattle.blocks.specs.Records.{Model, process_at, statement_at}
use Rattle.blocks.specs.declared.records.StatementRecord.{StatementRecord}
use Rattle.fields.specs.Fields.{absent, is_node, is_node_or_absent, in_span, owner_of, statement_ok, fields_ok}
use Rattle.fields.specs.Facts.{Spans}

pub statement_ok_lem : (M : Model) (n : ℕ) → fields_ok M ≡ true → n < length M.statements → statement_ok M n (statement_at M n) ≡ true
unfolding fields_ok
statement_ok_lem M n ok h = all_at (λ i. statement_ok M i (statement_at M i)) _ n h (every_at _ 6 ok)

-- a number that may be absent, and is not
pub present : (M : Model) (x : ℕ) → is_node_or_absent M x ≡ true → (x ≡ absent → ⊥) → x < length M.nodes
present M x h f =
    ⊎_elim (λ (u : is_node M x ≡ true). ltb-true _ _ u) (λ (u : eqb x absent ≡ true). absurd (f (eqb-true _ _ u))) (or_cases (is_node M x) _ h)

module _ (M : Model) (n : ℕ) (s : StatementRecord) (ok : statement_ok M n s ≡ true) where
  pub kind_most_lem : s.kind ≤ 7
  unfolding statement_ok
  kind_most_lem =
      let k = s.kind in
      ⊎_elim (λ (l : k < 8). omega arith)
      (λ (l : 8 ≤ k).
      absurd
      (false≢true
      (rw (ne_eqb k 0 (omega arith), ne_eqb k 1 (omega arith), ne_eqb k 2 (omega arith), ne_eqb k 7 (omega arith), ne_eqb k 3 (omega arith), ne_eqb k 4 (omega arith), ne_eqb k 5 (omega arith), ne_eqb k 6 (omega arith)) at ok)))
      (split k 8)

  pub names_variable : s.kind ≡ 1 → s.a < length M.variables
  unfolding statement_ok
  names_variable e = ltb-true _ _ (every_at _ 0 (rw e at ok))

  -- a signal assignment, of a value or of null: its signal and its delay
  abbrev Assigns : Type 0
  Assigns = ((s.kind ≡ 2) ⊎ (s.kind ≡ 7)) ⊎ (s.kind ≡ 6)

  assignment : Assigns → (s.a < length M.signals) × (s.c < length M.nodes)
  unfolding statement_ok
  assignment =
      ⊎_elim
      (⊎_elim
      (λ (e : s.kind ≡ 2). (ltb-true _ _ (every_at _ 0 (rw e at ok)), ltb-true _ _ (every_at _ 2 (rw e at ok))))
      (λ (e : s.kind ≡ 7). (ltb-true _ _ (every_at _ 0 (rw e at ok)), ltb-true _ _ (every_at _ 2 (rw e at ok)))))
      (λ (e : s.kind ≡ 6). (ltb-true _ _ (every_at _ 0 (rw e at ok)), ltb-true _ _ (every_at _ 2 (rw e at ok))))

  pub names_signal : Assigns → s.a < length M.signals
  names_signal h = (assignment h).0

  pub delay_node : Assigns → s.c < length M.nodes
  delay_node h = (assignment h).1

  pub variable_value : s.kind ≡ 1 → s.b < length M.nodes
  unfolding statement_ok
  variable_value e = ltb-true _ _ (every_at _ 1 (rw e at ok))

  pub signal_value : (s.kind ≡ 2) ⊎ (s.kind ≡ 7) → s.b < length M.nodes
  unfolding statement_ok
  signal_value =
      ⊎_elim (λ (e : s.kind ≡ 2). ltb-true _ _ (every_at _ 1 (rw e at ok))) (λ (e : s.kind ≡ 7). ltb-true _ _ (every_at _ 1 (rw e at ok)))

  pub branch_condition : s.kind ≡ 3 → s.b < length M.nodes
  unfolding statement_ok
  branch_condition e = ltb-true _ _ (every_at _ 1 (rw e at ok))

  pub target : 3 ≤ s.kind → s.kind ≤ 4 → Spans M (owner_of M n) s.a
  unfolding statement_ok in_span
  target l h =
      let p = owner_of M n in
      let t : in_span M p s.a ≡ true = among (λ k. s.kind ≡ k → in_span M p s.a ≡ true) 3 2 s.kind ((λ e. every_at _ 0 (rw e at ok)), ((λ e. every_at _ 0 (rw e at ok)), tt)) l (omega arith) refl in
      record {
        from = leb-true _ s.a (and_left (leb (process_at M p).first s.a) _ t);
        below = ltb-true s.a _ (and_right (leb (process_at M p).first s.a) _ t);
      }

  pub wait_condition : s.kind ≡ 5 → is_node_or_absent M s.b ≡ true
  unfolding statement_ok
  wait_condition e = every_at _ 1 (rw e at ok)

  pub wait_delay : s.kind ≡ 5 → is_node_or_absent M s.c ≡ true
  unfolding statement_ok
  wait_delay e = every_at _ 2 (rw e at ok)

  pub wait_set_lem : s.kind ≡ 5 → s.set < 2 ^ length M.signals
  unfolding statement_ok
  wait_set_lem e = ltb-true _ _ (every_at _ 3 (rw e at ok))
