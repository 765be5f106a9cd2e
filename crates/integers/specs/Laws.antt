-- What IEEE 1076-1987 says of quotient, rem and mod: for every a, and every b other than 0, the equation, the sign and the size.
-- No other numbers have these, so that they say what rem and mod are.
use Rattle.std.specs.Prelude.{◌≡◌, true, ◌⊎◌, ℕ, ◌≤◌, ◌<◌, ℤ, pos, nat_abs, ◌+ℤ◌, ◌*ℤ◌}
use Rattle.integers.specs.declared.division.Division.{Division}
use Rattle.integers.specs.Division.{same_sign, quotient, rem, modulo, division_of}

-- b goes into a q times and leaves r, which is 0 or has the sign of s, and is smaller than b
pub record Leaves (s a b q r : ℤ) : Type 0 where
  pub equation : a ≡ q *ℤ b +ℤ r
  pub sign : (r ≡ pos 0) ⊎ (same_sign r s ≡ true)
  pub size : nat_abs r < nat_abs b

-- "mod the sign of b": it differs from a by some multiple of b
pub record LeavesMod (a b : ℤ) : Type 0 where
  pub times : ℤ
  pub leaves : Leaves b a b times (modulo a b)

pub record DivisionLaws : Type 0 where
  -- "rem has the sign of a, [..] and a = (a / b) times b + (a rem b)"
  pub rem : (a b : ℤ) → (b ≡ pos 0 → ⊥) → Leaves a a b (quotient a b) (rem a b)
  pub modulo : (a b : ℤ) → (b ≡ pos 0 → ⊥) → LeavesMod a b
  -- no two remainders of one sign
  pub only : (s a b q r q' r' : ℤ) → Leaves s a b q r → Leaves s a b q' r' → (q ≡ q') × (r ≡ r')
  -- a range with both ends sameSign, -m and m, is never left
  pub stays : (w : Division) (a b : ℤ) (m : ℕ) → (b ≡ pos 0 → ⊥) → nat_abs a ≤ m → nat_abs b ≤ m → nat_abs (division_of w a b) ≤ m

-- what the machine divides: numbers of at most 2 to the 31, by one other than 0
pub record Divisible (a b : ℤ) : Type 0 where
  pub dividend : nat_abs a ≤ 2147483648
  pub divisor : nat_abs b ≤ 2147483648
  pub nonzero : b ≡ pos 0 → ⊥
