-- What the machine's division asks of numbers that it may divide, and what it gives. Assumes nothing.
use mathlib.Core.Path.{◌≡◌, refl, sym, ◌∙◌}
use mathlib.Core.Bool.{true, false, ◌||◌, beq}
use Prim.Native.Nat.{suc, ◌^◌, ◌≤◌, ◌<◌, zero-le}
use native.Mathlib.Omega.{arith}
use lib.Dec.{eqb}
use lib.IntN.{ℤ, pos, negsuc, nat_abs, ◌+ℤ◌}
use lib.Signed.{lt_z, quot_z, rem_z}
use borrow.Author.Tests.{le-ltb, ne_eqb}
use mir.Syntax.{w64}
use mir.Val.{SFits, to_z, of_z}
use mir.Facts.{to_z-of_z}
use Rattle.integers.specs.declared.division.Division.{Division}
use Rattle.integers.specs.declared.division.Division.TheVariants.{Quotient, Rem}
use Rattle.integers.specs.Division.{same_sign, quotient, rem, modulo, division_of}
use Rattle.integers.specs.Laws.{Divisible}
use Rattle.integers.proofs.Sizes.{add_abs, small, bits_some}
use Rattle.integers.proofs.Remainders.{quotient_is, rem_is, rem_leaves, stays}

-- what the machine reads of a number
abbrev read : ℤ → ℤ
read z = to_z w64 (of_z w64 z)

-- the machine's tests: two numbers have one sign, and a number is 0
same_sign_tests : (a b : ℤ) → beq (lt_z a (pos 0)) (lt_z b (pos 0)) ≡ same_sign a b
unfolding beq
same_sign_tests (pos m) (pos n) = rw (le-ltb m 0 zero-le, le-ltb n 0 zero-le)
same_sign_tests (pos m) (negsuc n) = rw (le-ltb m 0 zero-le)
same_sign_tests (negsuc m) (pos n) = rw (le-ltb n 0 zero-le)
same_sign_tests (negsuc m) (negsuc n) = refl

zero_test : (z : ℤ) → nat_abs z < 2 ^ 63 → eqb (of_z w64 z) 0 ≡ eqb (nat_abs z) 0
zero_test (pos n) h = refl
zero_test (negsuc n) h = rw (ne_eqb (of_z w64 (negsuc n)) 0 (λ e. omega arith), ne_eqb (suc n) 0 (λ e. omega arith))

-- what a division gives of numbers that may be divided is no larger than those may be
pub division_size : (w : Division) (a b : ℤ) → Divisible a b → nat_abs (division_of w a b) ≤ 2147483648
division_size w a b h = stays w a b 2147483648 h.nonzero h.dividend h.divisor

module _ (a b : ℤ) (h : Divisible a b) where
  read_a : read a ≡ a
  read_a = to_z-of_z (small a (omega (arith, h.dividend)))

  read_b : read b ≡ b
  read_b = to_z-of_z (small b (omega (arith, h.divisor)))

  division_fits : (w : Division) → SFits w64 (division_of w a b)
  division_fits w = small (division_of w a b) (omega (arith, division_size w a b h))

  pub divides : (0 < of_z w64 b) × SFits w64 (quot_z (read a) (read b))
  divides = (bits_some b h.nonzero (omega (arith, h.divisor)), rw (read_a, read_b) (rw (quotient_is a b) at (division_fits Quotient)))

  pub quotient_read : read (quot_z (read a) (read b)) ≡ quotient a b
  quotient_read = rw (read_a, read_b, sym (quotient_is a b)) (to_z-of_z (division_fits Quotient))

  pub rem_read : read (rem_z (read a) (read b)) ≡ rem a b
  rem_read = rw (read_a, read_b, sym (rem_is a b)) (to_z-of_z (division_fits Rem))

  -- v being what one of the divisions returned: what the machine reads of it
  pub division_read : (w : Division) {v : ℤ} → v ≡ division_of w (read a) (read b) → read v ≡ division_of w a b
  division_read w e = rw (e, read_a, read_b) (to_z-of_z (division_fits w))

  -- r being a rem b: what the machine reads of it, and b more
  module _ {r : ℤ} (e : r ≡ rem (read a) (read b)) where
    result_is : r ≡ rem a b
    result_is = e ∙ rw (read_a, read_b)

    result_read : read r ≡ r
    result_read = rw result_is (to_z-of_z (division_fits Rem))

    result_size : nat_abs r < nat_abs b
    result_size = rw result_is (rem_leaves a b h.nonzero).size

    test_is : (eqb (of_z w64 r) 0 || beq (lt_z (read r) (pos 0)) (lt_z (read b) (pos 0))) ≡ (eqb (nat_abs r) 0 || same_sign r b)
    test_is = rw (result_read, read_b, zero_test r (omega (arith, result_size, h.divisor)), same_sign_tests r b)

    pub raised_fits : SFits w64 (read r +ℤ read b)
    raised_fits = rw (result_read, read_b) (small (r +ℤ b) (omega (arith, add_abs r b, result_size, h.divisor)))

    pub kept : (eqb (of_z w64 r) 0 || beq (lt_z (read r) (pos 0)) (lt_z (read b) (pos 0))) ≡ true → read r ≡ modulo a b
    unfolding modulo
    kept t = result_read ∙ rw (sym result_is, sym test_is ∙ t)

    pub raised : (eqb (of_z w64 r) 0 || beq (lt_z (read r) (pos 0)) (lt_z (read b) (pos 0))) ≡ false → read (read r +ℤ read b) ≡ modulo a b
    unfolding modulo
    raised t = to_z-of_z raised_fits ∙ rw (result_read, read_b, sym result_is, sym test_is ∙ t)
