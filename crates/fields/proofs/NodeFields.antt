-- The laws of record fields: what rule 5 says of signals, variables, rows, and nodes by their kinds. Assumes nothing.
use mathlib.Core.Path.{◌≡◌, refl}
use mathlib.Core.Bool.{Bool, true, false≢true}
use mathlib.Core.Logic.{⊎_elim}
use Prim.Native.Nat.{ℕ, ◌≤◌, ◌<◌}
use native.Mathlib.Omega.{arith}
use borrow.Author.Tests.{ne_eqb, eqb-true, ltb-true, leb-true}
use lib.Dec.{leb}
use lib.ListN.{length, get_or}
use Rattle.base.specs.Below.{all_below}
use Rattle.base.proofs.Below.{and_left, every_at, all_at, among, split}
use Rattle.blocks.specs.Records.{plain, Model, signal_at, variable_at, node_at, row_at}
use Rattle.blocks.specs.declared.records.NodeRecord.{NodeRecord}
use Rattle.fields.specs.Fields.{value_ok, signal_ok, variable_ok, node_ok, row_ok, fields_ok}
use Rattle.fields.specs.Facts.{SignalFits, VariableFits}

-- a type with a value is one of the three
value_type : (ty x : ℕ) → value_ok ty x ≡ true → ty ≤ 2
unfolding value_ok
value_type ty x h =
    ⊎_elim (λ (l : ty < 3). omega arith)
    (λ (l : 3 ≤ ty). absurd (false≢true (rw (ne_eqb ty 0 (omega arith), ne_eqb ty 1 (omega arith), ne_eqb ty 2 (omega arith)) at h)))
    (split ty 3)

module _ (M : Model) (ok : fields_ok M ≡ true) where
  pub signal_fits : (n : ℕ) → n < length M.signals → SignalFits M n
  unfolding fields_ok signal_ok
  signal_fits n h =
      let g = all_at (λ i. signal_ok (signal_at M i)) _ n h (every_at _ 0 ok) in
      record {
        ty = leb-true _ 1 (every_at _ 0 g);
        start = every_at _ 3 g;
        guarded = λ h. eqb-true _ 1 (rw (ne_eqb (signal_at M n).kind plain (λ e. omega arith)) at (every_at _ 2 g));
      }

  pub variable_fits : (n : ℕ) → n < length M.variables → VariableFits M n
  unfolding fields_ok variable_ok
  variable_fits n h =
      let g = all_at (λ i. variable_ok M (variable_at M i)) _ n h (every_at _ 1 ok) in
      record { ty = value_type _ _ (every_at _ 0 g); start = every_at _ 0 g; process = ltb-true _ _ (every_at _ 1 g) }

  pub node_ok_lem : (n : ℕ) → n < length M.nodes → node_ok M (node_at M n) ≡ true
  unfolding fields_ok
  node_ok_lem n h = all_at (λ i. node_ok M (node_at M i)) _ n h (every_at _ 5 ok)

  -- what a row has in column i is a code
  pub row_code : (n i : ℕ) → n < length M.rows → i < 9 → get_or (row_at M n).codes i 0 < 9
  unfolding fields_ok row_ok
  row_code n i h l =
      let coded : ℕ → Bool = λ i. leb (get_or (row_at M n).codes i 0) 8 in
      let g = all_at (λ k. row_ok (row_at M k)) _ n h (every_at _ 7 ok) in
      let q = leb-true (get_or (row_at M n).codes i 0) 8 (all_at coded 9 i l (and_left (all_below coded 9) (row_at M n).zeros g)) in
      omega arith

module _ (M : Model) (d : NodeRecord) (ok : node_ok M d ≡ true) where
  pub kind_least_lem : 1 ≤ d.kind
  unfolding node_ok
  kind_least_lem =
      ⊎_elim (λ (l : d.kind < 1). let e : d.kind ≡ 0 = omega arith in absurd (omega (arith, leb-true 7 0 (every_at _ 0 (rw e at ok)))))
      (λ (l : 1 ≤ d.kind). l)
      (split d.kind 1)

  pub kind_most_lem : d.kind ≤ 18
  unfolding node_ok
  kind_most_lem =
      let k = d.kind in
      ⊎_elim (λ (l : k < 11). omega arith)
      (λ (l : 11 ≤ k).
      leb-true k 18
      (every_at _ 1
      (rw (ne_eqb k 1 (omega arith), ne_eqb k 2 (omega arith), ne_eqb k 3 (omega arith), ne_eqb k 4 (omega arith), ne_eqb k 5 (omega arith), ne_eqb k 6 (omega arith), ne_eqb k 10 (omega arith)) at ok)))
      (split k 11)

  pub constant_integer : d.kind ≡ 1 → value_ok 0 d.k ≡ true
  unfolding node_ok
  constant_integer e = every_at _ 2 (rw e at ok)

  pub constant_logic : d.kind ≡ 2 → value_ok 1 d.k ≡ true
  unfolding node_ok
  constant_logic e = every_at _ 2 (rw e at ok)

  pub names_variable : d.kind ≡ 3 → d.a < length M.variables
  unfolding node_ok
  names_variable e = ltb-true _ _ (every_at _ 0 (rw e at ok))

  pub names_signal : 4 ≤ d.kind → d.kind ≤ 5 → d.a < length M.signals
  unfolding node_ok
  names_signal l h =
      among (λ k. d.kind ≡ k → d.a < length M.signals) 4 2 d.kind
      ((λ e. ltb-true _ _ (every_at _ 0 (rw e at ok))), ((λ e. ltb-true _ _ (every_at _ 0 (rw e at ok))), tt)) l (omega arith) refl

  pub delay_most : d.kind ≡ 5 → d.k ≤ 31
  unfolding node_ok
  delay_most e = leb-true _ 31 (every_at _ 2 (rw e at ok))
