-- Signed arithmetic: what the machine's sums, products and divisions ask, from bounds on the operands, and the two ways between a
-- word and its integer. Assumes nothing.
use mathlib.Core.Path.{◌≡◌, sym, ap, ◌∙◌}
use mathlib.Core.Bool.{true, false, true≢false}
use Prim.Native.Nat.{ℕ, suc, ◌-◌, ◌^◌, ◌<◌, ◌≤◌}
use native.Mathlib.Nat.{mul-le-mul}
use native.Mathlib.Omega.{arith}
use lib.IntN.{ℤ, pos, negsuc, nat_abs, pos-ne-negsuc, ◌*ℤ◌}
use lib.Signed.{lt_z}
use lib.Dec.{eqb, ltb}
use borrow.Author.Tests.{ltb-true, ltb-false, lt-ltb, eqb-false, not-true}
use mir.Syntax.{w32, w64}
use mir.Val.{Fits, SFits, to_z, of_z}
use mir.Facts.{to_z-of_z, sfits_to_z, sfits_widen}
use Rattle.base.proofs.Cases.{either_way}
use Rattle.integers.specs.declared.division.Division.{Division}
use Rattle.integers.specs.Division.{division_of}
use Rattle.integers.specs.Laws.{Divisible}
use Rattle.integers.proofs.Machine.{division_size}
use Rattle.integers.proofs.Sizes.{abs_times, small}
use Rattle.fields.specs.Fields.{value_ok}
use Rattle.trees.specs.Trees.{integer}
use Rattle.rules.specs.Evaluation.{int}

-- from a size to a fit, and back
size : (z : ℤ) → SFits w32 z → nat_abs z ≤ 2147483648
size (pos n) h = omega (arith, h.sfits)
size (negsuc n) h = omega (arith, h.sfits)

-- the integer of 32 bits fits 64 bits
pub int_fits : (x : ℕ) → Fits w32 x → SFits w64 (int x)
int_fits x h = sfits_widen tt (sfits_to_z h)

-- the 32 bits of 0
pub int_zero : (y : ℕ) → int y ≡ pos 0 → y ≡ 0
int_zero y e = either_way (ltb y 2147483648) (λ t. ap nat_abs (rw t at e)) (λ t. absurd (pos-ne-negsuc 0 _ (sym (rw t at e))))

-- the integer of 32 bits that are an integer is in the range
pub int_size : (x : ℕ) → value_ok integer x ≡ true → nat_abs (int x) ≤ 2147483647
unfolding value_ok
int_size x h =
    either_way (ltb x 2147483648) (λ t. rw t (omega (arith, ltb-true x 2147483648 t)))
    (λ t. rw t (other x (ltb-false x 2147483648 t) (eqb-false x 2147483648 (not-true (eqb x 2147483648) h))))
  where
    other : (x : ℕ) → 2147483648 ≤ x → (x ≡ 2147483648 → ⊥) → suc (4294967296 - suc x) ≤ 2147483647
    other x l n = omega arith

-- r and s being what `int` returned for x and y: what the machine reads of r, and of their product and division, which fit
-- 64 bits, are those of the integers
module _ (x : ℕ) (h : x < 4294967296) {r : ℤ} (e : r ≡ int x) where
  abbrev read : ℤ → ℤ
  read z = to_z w64 (of_z w64 z)

  fits : Fits w32 x
  fits = record { fits = h }

  small_int : nat_abs (int x) ≤ 2147483648
  small_int = size (int x) (sfits_to_z fits)

  pub int_read : read r ≡ int x
  int_read = rw e (to_z-of_z (int_fits x fits))

  module _ (y : ℕ) (k : y < 4294967296) {s : ℤ} (f : s ≡ int y) where
    other_read : read s ≡ int y
    other_read = rw f (to_z-of_z (int_fits y record { fits = k }))

    small_other : nat_abs (int y) ≤ 2147483648
    small_other = size (int y) (sfits_to_z record { fits = k })

    -- an operation whose result on the integers fits 64 bits
    module _ (op : ℤ → ℤ → ℤ) (l : nat_abs (op (int x) (int y)) < 2 ^ 63) where
      result_fits : SFits w64 (op (read r) (read s))
      result_fits = rw (int_read, other_read) (small (op (int x) (int y)) l)

      result_is : read (op (read r) (read s)) ≡ op (int x) (int y)
      result_is = to_z-of_z result_fits ∙ rw (int_read, other_read)

    product_small : nat_abs (int x *ℤ int y) < 2 ^ 63
    product_small = omega (arith, abs_times (int x) (int y), mul-le-mul small_int small_other)

    pub product_is : read (read r *ℤ read s) ≡ int x *ℤ int y
    product_is = result_is ◌*ℤ◌ product_small

    -- a divisor whose 32 bits are not 0
    numbers : (y ≡ 0 → ⊥) → Divisible (int x) (int y)
    numbers h = record { dividend = small_int; divisor = small_other; nonzero = λ e. h (int_zero y e) }

    -- v being what a division returned for r and s: what the machine reads of it
    pub division_is : (w : Division) {v : ℤ} → (y ≡ 0 → ⊥) → v ≡ division_of w (read r) (read s) → read v ≡ division_of w (int x) (int y)
    division_is w h e = rw e (result_is (division_of w) (omega (arith, division_size w (int x) (int y) (numbers h))))

    pub division_small : (w : Division) {v : ℤ} → (y ≡ 0 → ⊥) → v ≡ division_of w (read r) (read s) → nat_abs (read v) ≤ 2147483648
    division_small w h e = rw (division_is w h e) (division_size w (int x) (int y) (numbers h))

-- an integer of 0 or more is its 32 bits, and these are fewer than 2 ^ 31
module _ (x : ℕ) (h : lt_z (int x) (pos 0) ≡ false) where
  pub below_half : x < 2147483648
  below_half = either_way (ltb x 2147483648) (ltb-true x 2147483648) (λ e. absurd (true≢false (rw e at h)))

  pub not_negative : nat_abs (int x) ≡ x
  not_negative = rw (lt-ltb x 2147483648 below_half)
