-- The program's formulas over four classes have the values of the paper's sentences, each by one computed test at the codes. Assumes nothing.
use mathlib.Core.Path.{◌≡◌, refl}
use mathlib.Core.Bool.{true, ◌&&◌, ◌||◌, not}
use Prim.Native.Nat.{ℕ}
use lib.Dec.{eqb}
use Rattle.base.specs.Below.{all_below}
use Rattle.base.specs.Cases.{◌∣◌, ◌⇒◌}
use Rattle.values.specs.Nine.{U, X, ‘0’, ‘1’, code_of, is_u, low, high}
use Rattle.values.specs.Operators.{not_of, and_of, or_of, xor_of}
use Rattle.values.proofs.Tables.{Coded, same, agree}
use Rattle.values.proofs.Operators.{is_u_code, low_code, high_code, not_coded, and_coded, or_coded, xor_coded}

-- the class of a value, and what the operators make of classes
abbrev class_of : ℕ → ℕ
class_of x = low x ⇒ ‘0’ ∣ high x ⇒ ‘1’ ∣ is_u x ⇒ U ∣ X

abbrev not_class : ℕ → ℕ
not_class a = eqb a ‘0’ ⇒ ‘1’ ∣ eqb a ‘1’ ⇒ ‘0’ ∣ a

abbrev gate : ℕ → ℕ → ℕ → ℕ → ℕ
gate l h a b = eqb a l || eqb b l ⇒ l ∣ eqb a U || eqb b U ⇒ U ∣ eqb a h && eqb b h ⇒ h ∣ X

abbrev xor_class : ℕ → ℕ → ℕ
xor_class a b = eqb a U || eqb b U ⇒ U ∣ eqb a X || eqb b X ⇒ X ∣ not (eqb a b) ⇒ ‘1’ ∣ ‘0’

class_coded : (x : ℕ) → class_of (code_of x) ≡ class_of x
class_coded x = simp (is_u_code, low_code, high_code)

-- a formula over the operands' classes has the values of a rule that it agrees with at the codes
module _ (f g : ℕ → ℕ → ℕ) where
  abbrev ByClasses : Type 0
  ByClasses = (x y : ℕ) → f (class_of x) (class_of y) ≡ g x y

  by_classes : Coded g → same (λ x y. f (class_of x) (class_of y)) g ≡ true → ByClasses
  by_classes p t x y = agree (λ x y. f (class_of x) (class_of y)) g (λ x y. rw (class_coded x, class_coded y)) p t x y

pub not_by_class : (x : ℕ) → not_class (class_of x) ≡ not_of x
unfolding same all_below is_u low high not_of
not_by_class x = by_classes (λ a b. not_class a) (λ x y. not_of x) (λ x y. not_coded x) refl x x

pub and_by_classes : ByClasses (gate ‘0’ ‘1’) and_of
unfolding same all_below is_u low high and_of
and_by_classes = by_classes (gate ‘0’ ‘1’) and_of and_coded refl

pub or_by_classes : ByClasses (gate ‘1’ ‘0’) or_of
unfolding same all_below is_u low high or_of
or_by_classes = by_classes (gate ‘1’ ‘0’) or_of or_coded refl

pub xor_by_classes : ByClasses xor_class xor_of
unfolding same all_below is_u low high xor_of
xor_by_classes = by_classes xor_class xor_of xor_coded refl
