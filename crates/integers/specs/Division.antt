-- Quotient, rem and mod of integers, as in IEEE 1076-1987 (document 02, item 2). A divisor of 0 is left to evaluation: fault 4.
use Rattle.std.specs.Prelude.{Bool, true, false, ◌||◌, ◌/◌, eqb, ℤ, pos, negsuc, nat_abs, neg_ℤ, ◌+ℤ◌, ◌-ℤ◌, ◌*ℤ◌}
use Rattle.base.specs.Cases.{◌∣◌, ◌⇒◌}
use Rattle.integers.specs.declared.division.Division.{Division}
use Rattle.integers.specs.declared.division.Division.TheVariants.{Quotient, Modulo, Rem}

-- a and b are both negative, or neither is
abbrev pub same_sign : ℤ → ℤ → Bool
same_sign (pos m) (pos n) = true
same_sign (pos m) (negsuc n) = false
same_sign (negsuc m) (pos n) = false
same_sign (negsuc m) (negsuc n) = true

-- "the quotient is cut toward zero": the whole part of |a| / |b|, with the sign that the signs of a and b make
unfoldable pub quotient : ℤ → ℤ → ℤ
quotient a b = same_sign a b ⇒ pos (nat_abs a / nat_abs b) ∣ neg_ℤ (pos (nat_abs a / nat_abs b))

-- "a = (a / b) times b + (a rem b)"
unfoldable pub rem : ℤ → ℤ → ℤ
rem a b = a -ℤ quotient a b *ℤ b

-- "mod the sign of b": a rem b, and b more where that has the other sign
unfoldable pub modulo : ℤ → ℤ → ℤ
modulo a b = eqb (nat_abs (rem a b)) 0 || same_sign (rem a b) b ⇒ rem a b ∣ (rem a b +ℤ b)

-- each of the three
abbrev pub division_of : Division → ℤ → ℤ → ℤ
division_of Quotient = quotient
division_of Modulo = modulo
division_of Rem = rem
