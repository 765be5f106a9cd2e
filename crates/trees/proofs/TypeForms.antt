-- The laws of rule 7 as the code works it out, of what was read of a statement. Assumes nothing.
use mathlib.Core.Path.{◌≡◌}
use mathlib.Core.Bool.{Bool, true, ◌&&◌, ◌||◌}
use mathlib.Core.Logic.{◌⊎◌, inl, inr, ⊎_elim}
use Prim.Native.Nat.{ℕ, ◌<◌}
use lib.Dec.{eqb}
use lib.ListN.{length}
use borrow.Author.Tests.{ne_eqb}
use Rattle.blocks.specs.Records.{Model, signal_at, variable_at, statement_at}
use Rattle.blocks.specs.declared.records.StatementRecord.{StatementRecord}
use Rattle.fields.specs.Fields.{absent, statement_ok, fields_ok}
use Rattle.fields.proofs.StatementFields.{statement_ok_lem}
use Rattle.trees.specs.Trees.{integer, boolean, type_of, statement_typed}

-- s is statement u, as it was read
module _ (M : Model) (s u : StatementRecord) (e : s ≡ u) where
  module _ (x : ℕ) (p : x ≡ type_of M s.b) where
    pub variable_typed : s.kind ≡ 1 → (y : ℕ) → y ≡ (variable_at M s.a).ty → eqb x y ≡ statement_typed M u
    unfolding statement_typed
    variable_typed k y q = rw (← e, k, p, q)

    pub signal_typed : (s.kind ≡ 2) ⊎ (s.kind ≡ 7) → (y z : ℕ) → y ≡ (signal_at M s.a).ty → z ≡ type_of M s.c → (eqb x y && eqb z integer) ≡ statement_typed M u
    unfolding statement_typed
    signal_typed k y z q r = rw (← e, p, q, r) (⊎_elim (λ k. rw k) (λ k. rw k) k)

    pub branch_typed : s.kind ≡ 3 → eqb x boolean ≡ statement_typed M u
    unfolding statement_typed
    branch_typed k = rw (← e, k, p)

  pub wait_typed : s.kind ≡ 5 → (x y : Bool) → x ≡ (eqb s.b absent || eqb (type_of M s.b) boolean) → y ≡ (eqb s.c absent || eqb (type_of M s.c) integer) → (x && y) ≡ statement_typed M u
  unfolding statement_typed
  wait_typed k x y p q = rw (← e, k, p, q)

  pub null_typed : s.kind ≡ 6 → (x : ℕ) → x ≡ type_of M s.c → eqb x integer ≡ statement_typed M u
  unfolding statement_typed
  null_typed k x p = rw (← e, k, p)

  pub other_typed : (s.kind ≡ 1 → ⊥) → ((s.kind ≡ 2) ⊎ (s.kind ≡ 7) → ⊥) → (s.kind ≡ 3 → ⊥) → (s.kind ≡ 5 → ⊥) → (s.kind ≡ 6 → ⊥) → true ≡ statement_typed M u
  unfolding statement_typed
  other_typed f g h i j =
      let k = s.kind in
      rw (← e, ne_eqb k 1 f, ne_eqb k 2 (λ x. g (inl x)), ne_eqb k 7 (λ x. g (inr x)), ne_eqb k 3 h, ne_eqb k 5 i, ne_eqb k 6 j)

-- statement n, as it was read, passes rule 5
pub read_ok : (M : Model) (n : ℕ) (s : StatementRecord) → s ≡ statement_at M n → fields_ok M ≡ true → n < length M.statements → statement_ok M n s ≡ true
read_ok M n s e ok h = rw e (statement_ok_lem M n ok h)
