-- The laws of rules 8 and 20 as the code works them out, of what was read of a statement, a signal or the drivers. Assumes nothing.
use mathlib.Core.Path.{◌≡◌}
use mathlib.Core.Bool.{Bool, true, not, ◌&&◌, ◌||◌}
use mathlib.Core.Logic.{◌⊎◌, ⊎_elim}
use Prim.Native.Nat.{ℕ, ◌≤◌}
use native.Mathlib.Omega.{arith}
use lib.Dec.{eqb, leb, ltb}
use lib.ListN.{length}
use borrow.Author.Tests.{ne_eqb}
use Rattle.base.specs.Below.{all_below, every}
use Rattle.blocks.specs.Records.{plain, Model, signal_at, variable_at, statement_at}
use Rattle.blocks.specs.Totals.{totals_ok}
use Rattle.blocks.specs.declared.records.StatementRecord.{StatementRecord}
use Rattle.blocks.proofs.Lookup.{drivers_most}
use Rattle.fields.specs.Fields.{absent, owner_of}
use Rattle.model.specs.Nulls.{null_ok}
use Rattle.model.specs.Owners.{drivers_rise, drivers_of, single_ok, driver_for, reads_own, statement_owned, owners_ok}
use Rattle.model.proofs.Drivers.{driver_most}

-- s is statement u, as it was read
module _ (M : Model) (s u : StatementRecord) (e : s ≡ u) where
  -- p is its process o, as it was found
  module _ (p o : ℕ) (f : p ≡ o) where
    pub variable_owned : s.kind ≡ 1 → (x : ℕ) (y : Bool) → x ≡ (variable_at M s.a).process → y ≡ reads_own M p s.b → (eqb x p && y) ≡ statement_owned M o u
    unfolding statement_owned
    variable_owned k x y q r = rw (← e, ← f, k, q, r)

    pub signal_owned : (s.kind ≡ 2) ⊎ (s.kind ≡ 7) → (d t : ℕ) (x y : Bool) → d ≡ driver_for M o u.a → t ≡ length M.drivers → x ≡ reads_own M p s.b → y ≡ reads_own M p s.c → ((ltb d t && x) && y) ≡ statement_owned M o u
    unfolding statement_owned every
    signal_owned k d t x y q r v w = rw (q, r, v, w, ← e, ← f) (⊎_elim (λ k. rw k) (λ k. rw k) k)

    pub branch_owned : s.kind ≡ 3 → (x : Bool) → x ≡ reads_own M p s.b → x ≡ statement_owned M o u
    unfolding statement_owned
    branch_owned k x q = rw (← e, ← f, k) q

    pub wait_owned : s.kind ≡ 5 → (x y : Bool) → x ≡ (eqb s.b absent || reads_own M p s.b) → y ≡ (eqb s.c absent || reads_own M p s.c) → (x && y) ≡ statement_owned M o u
    unfolding statement_owned
    wait_owned k x y q r = rw (← e, ← f, k, q, r)

    pub null_owned : s.kind ≡ 6 → (d t : ℕ) (x : Bool) → d ≡ driver_for M o u.a → t ≡ length M.drivers → x ≡ reads_own M p s.c → (ltb d t && x) ≡ statement_owned M o u
    unfolding statement_owned
    null_owned k d t x q r v = rw (q, r, v, ← e, ← f, k)

    pub driver_named : (d : ℕ) → d ≡ driver_for M p s.a → d ≡ driver_for M o u.a
    driver_named d q = rw (← e, ← f) q

  pub other_owned : (o : ℕ) → (s.kind ≡ 1 → ⊥) → (s.kind ≡ 2 → ⊥) → (s.kind ≡ 7 → ⊥) → (s.kind ≡ 3 → ⊥) → (s.kind ≡ 5 → ⊥) → (s.kind ≡ 6 → ⊥) → true ≡ statement_owned M o u
  unfolding statement_owned
  other_owned o f g l h i j =
      let k = s.kind in
      rw (← e, ne_eqb k 1 f, ne_eqb k 2 g, ne_eqb k 7 l, ne_eqb k 3 h, ne_eqb k 5 i, ne_eqb k 6 j)

  pub not_null : (s.kind ≡ 6 → ⊥) → true ≡ null_ok M u
  unfolding null_ok
  not_null f = rw (← e, ne_eqb s.kind 6 f)

  pub null_form : s.kind ≡ 6 → (k : ℕ) → k ≡ (signal_at M s.a).kind → not (eqb k plain) ≡ null_ok M u
  unfolding null_ok
  null_form k x q = rw (← e, k, q)

module _ (M : Model) where
  pub driver_small : totals_ok M ≡ true → (p s d : ℕ) → d ≡ driver_for M p s → d ≤ 64
  driver_small t p s d e = omega (arith, driver_most M p s, drivers_most M t)

  pub single_form : (s x n : ℕ) → x ≡ (signal_at M s).ty → n ≡ drivers_of M s → (eqb x 1 || leb n 1) ≡ single_ok M s
  unfolding single_ok
  single_form s x n p q = rw (p, q)

  pub owners_form :
      {r s o : Bool} →
      r ≡ drivers_rise M →
      s ≡ all_below (single_ok M) (length M.signals) →
      o ≡ all_below (λ n. statement_owned M (owner_of M n) (statement_at M n)) (length M.statements) →
      ((r && s) && o) ≡ owners_ok M
  unfolding owners_ok every
  owners_form p q r = rw (p, q, r)
