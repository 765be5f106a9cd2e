-- Laws of numerals for those who read them: a number fits into its digits, and zeros may stand before them. Assumes nothing.
use mathlib.Core.Path.{◌≡◌, ap}
use mathlib.Core.Bool.{Bool}
use mathlib.Core.List.{◌++◌}
use mathlib.Core.Logic.{⊎_elim, ◌⊎◌, inl, inr}
use Prim.Native.Nat.{ℕ, zero, suc, ◌+◌, ◌^◌, ◌≤◌, ◌<◌}
use native.Mathlib.Nat.{le_antisymm, le_trans, pow-le-pow_right, div-eq_of_lt, zero-mod, zero-add, suc-add}
use native.Mathlib.Omega.{arith}
use borrow.Author.Tests.{ltb-true}
use lib.Dec.{ltb}
use lib.ListN.{replicate}
use Rattle.base.specs.Course.{first_with}
use Rattle.base.proofs.Below.{split}
use Rattle.base.proofs.Course.{first_at, first_within}
use Rattle.io.specs.Digits.{last_digits}
use Rattle.numerals.specs.Numerals.{places_in}
use Rattle.numerals.proofs.NumeralLaws.{digits_front}

module _ (b most n : ℕ) where
  abbrev fitting : ℕ → Bool
  fitting k = ltb n (b ^ suc k)

  pub places_some : 0 < places_in b most n
  unfolding places_in
  places_some = omega arith

  -- a number fits into its places, or they are all that there are
  pub places_either : (n < b ^ places_in b most n) ⊎ (places_in b most n ≡ suc most)
  unfolding places_in
  places_either =
      ⊎_elim
      (λ (l : first_with fitting most < most). inl (ltb-true _ _ (first_at fitting most l)))
      (λ (l : most ≤ first_with fitting most). inr (ap suc (le_antisymm (first_within fitting most) l)))
      (split (first_with fitting most) most)

  pub places_hold : n < b ^ suc most → n < b ^ places_in b most n
  places_hold h = ⊎_elim (λ (l : n < b ^ places_in b most n). l) (λ (e : places_in b most n ≡ suc most). rw e h) places_either

-- more digits than a number needs begin with zeros
pub digits_zeros : (b j k n : ℕ) → 0 < b → n < b ^ k → last_digits b (j + k) n ≡ replicate j 48 ++ last_digits b k n
digits_zeros b zero k n p h = rw zero-add
digits_zeros b (suc j) k n p h =
    let l : n < b ^ (j + k) = le_trans h (pow-le-pow_right {n = b} p (omega arith)) in
    rw (suc-add, digits_front b (j + k) n, div-eq_of_lt l, zero-mod, digits_zeros b j k n p h)
