-- The operators see a number's code alone, and give codes: X and what is read as X are in none of the operators' classes. Assumes nothing.
use mathlib.Core.Path.{◌≡◌, refl}
use Prim.Native.Nat.{ℕ, ◌<◌}
use native.Mathlib.Omega.{arith}
use lib.Dec.{eqb, ltb, lit<}
use borrow.Author.Tests.{ltb-true, ltb-false, ne_eqb}
use Rattle.base.specs.Below.{all_below}
use Rattle.base.proofs.Below.{all_at}
use Rattle.base.proofs.Cases.{by_test}
use Rattle.values.specs.Nine.{code_of, is_u, low, high}
use Rattle.values.specs.Operators.{not_of, and_of, or_of, xor_of}
use Rattle.values.proofs.Tables.{Coded, code_below, below}

test_code : (x n : ℕ) → n < 9 → (n ≡ 1 → ⊥) → eqb (code_of x) n ≡ eqb x n
unfolding code_of
test_code x n h g =
    by_test (λ y. eqb y n ≡ eqb x n) (ltb x 9) x 1 (λ e. refl)
    (λ e. let l = ltb-false x 9 e in rw (ne_eqb 1 n (λ z. g (omega arith)), ne_eqb x n (λ z. omega arith)))

pub is_u_code : (x : ℕ) → is_u (code_of x) ≡ is_u x
unfolding is_u
is_u_code x = test_code x 0 (lit< tt) (λ z. omega arith)

pub low_code : (x : ℕ) → low (code_of x) ≡ low x
unfolding low
low_code x = rw (test_code x 2 (lit< tt) (λ z. omega arith), test_code x 6 (lit< tt) (λ z. omega arith))

pub high_code : (x : ℕ) → high (code_of x) ≡ high x
unfolding high
high_code x = rw (test_code x 3 (lit< tt) (λ z. omega arith), test_code x 7 (lit< tt) (λ z. omega arith))

pub not_coded : (x : ℕ) → not_of (code_of x) ≡ not_of x
unfolding not_of
not_coded x = simp (is_u_code, low_code, high_code)

pub and_coded : Coded and_of
unfolding and_of
and_coded x y = simp (is_u_code, low_code, high_code)

pub or_coded : Coded or_of
unfolding or_of
or_coded x y = simp (is_u_code, low_code, high_code)

pub xor_coded : Coded xor_of
unfolding xor_of
xor_coded x y = simp (is_u_code, low_code, high_code)

-- and their results are codes
pub not_below : (x : ℕ) → not_of x < 9
unfolding all_below is_u low high not_of
not_below x = rw (← not_coded x) (ltb-true (not_of (code_of x)) 9 (all_at (λ x. ltb (not_of x) 9) 9 (code_of x) (code_below x) refl))

pub and_below : (x y : ℕ) → and_of x y < 9
unfolding all_below is_u low high and_of
and_below = below and_of and_coded refl

pub or_below : (x y : ℕ) → or_of x y < 9
unfolding all_below is_u low high or_of
or_below = below or_of or_coded refl

pub xor_below : (x y : ℕ) → xor_of x y < 9
unfolding all_below is_u low high xor_of
xor_below = below xor_of xor_coded refl
