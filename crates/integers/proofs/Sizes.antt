-- The sizes of integers, and what 64 bits hold. Assumes nothing.
use mathlib.Core.Path.{◌≡◌, refl, ap}
use Prim.Native.Nat.{ℕ, zero, suc, ◌+◌, ◌*◌, ◌^◌, ◌≤◌, ◌<◌}
use native.Mathlib.Omega.{arith}
use lib.IntN.{ℤ, pos, negsuc, nat_abs, neg_ℤ, sub_ℕ, ◌+ℤ◌, ◌*ℤ◌}
use lib.Dec.{ltb}
use borrow.Author.Tests.{ltb-true}
use mir.Syntax.{w64}
use mir.Val.{SFits, of_z}
use Rattle.base.proofs.Cases.{either_way}

pub neg_abs : (x : ℤ) → nat_abs (neg_ℤ x) ≡ nat_abs x
neg_abs (pos zero) = refl
neg_abs (pos (suc n)) = refl
neg_abs (negsuc n) = refl

sub_abs : (m n : ℕ) → nat_abs (sub_ℕ m n) ≤ m + n
sub_abs m n = either_way (ltb m n) (λ e. rw e (omega (arith, ltb-true m n e))) (λ e. rw e (omega arith))

pub add_abs : (x y : ℤ) → nat_abs (x +ℤ y) ≤ nat_abs x + nat_abs y
add_abs (pos m) (pos n) = omega arith
add_abs (pos m) (negsuc n) = sub_abs m (suc n)
add_abs (negsuc m) (pos n) = omega (arith, sub_abs n (suc m))
add_abs (negsuc m) (negsuc n) = omega arith

pub abs_times : (x y : ℤ) → nat_abs (x *ℤ y) ≡ nat_abs x * nat_abs y
abs_times (pos m) (pos n) = refl
abs_times (pos m) (negsuc n) = neg_abs (pos (m * suc n))
abs_times (negsuc m) (pos n) = neg_abs (pos (suc m * n))
abs_times (negsuc m) (negsuc n) = refl

pub abs_some : (x : ℤ) → (x ≡ pos 0 → ⊥) → 0 < nat_abs x
abs_some (pos zero) h = absurd (h refl)
abs_some (pos (suc n)) h = omega arith
abs_some (negsuc n) h = omega arith

pub abs_none : (x : ℤ) → nat_abs x ≡ 0 → x ≡ pos 0
abs_none (pos n) e = ap pos e
abs_none (negsuc n) e = absurd (omega arith)

-- a number of less than 2 to the 63 fits 64 bits
pub small : (z : ℤ) → nat_abs z < 2 ^ 63 → SFits w64 z
small (pos n) h = record { sfits = h }
small (negsuc n) h = record { sfits = omega arith }

-- the 64 bits of a number other than 0 are not all 0
pub bits_some : (z : ℤ) → (z ≡ pos 0 → ⊥) → nat_abs z < 2 ^ 63 → 0 < of_z w64 z
bits_some (pos zero) h l = absurd (h refl)
bits_some (pos (suc n)) h l = omega arith
bits_some (negsuc n) h l = omega arith
