-- Laws of digits and numerals: how many there are, and which come first. Assumes nothing.
use mathlib.Core.Path.{◌≡◌, refl, sym, ap, ◌∙◌}
use mathlib.Core.Bool.{Bool, false}
use mathlib.Core.List.{◌∷◌}
use mathlib.Core.Logic.{⊎_elim}
use Prim.Native.Nat.{ℕ, zero, suc, ◌-◌, ◌/◌, ◌%◌, ◌^◌, ◌≤◌, ◌<◌}
use native.Mathlib.Nat.{le_trans, eq-or-lt_of_le, pow-le-pow_right, pow-zero, pow-succ', div-one, div-div-eq-div-mul}
use native.Mathlib.Numerals.{add-one}
use native.Mathlib.Omega.{arith}
use borrow.Author.Tests.{ltb-false, lt-ltb, le-ltb}
use lib.Dec.{ltb}
use lib.ListN.{length, length-append}
use Rattle.base.specs.Course.{first_with}
use Rattle.base.proofs.Below.{split}
use Rattle.base.proofs.Course.{first_found, first_none, first_before, first_within}
use Rattle.io.specs.Digits.{hex_digit_ascii, last_digits, IsDigitCount}
use Rattle.numerals.specs.Numerals.{places_in, numeral, decimal_of, binary_of}

pub digits_length : (b k n : ℕ) → length (last_digits b k n) ≡ k
digits_length b zero n = refl
digits_length b (suc k) n = rw (length-append, digits_length b k (n / b)) (add-one k)

-- the last k + 1 digits: one, and the last k behind it
pub digits_front : (b k n : ℕ) → last_digits b (suc k) n ≡ hex_digit_ascii (n / b ^ k % b) ∷ last_digits b k n
digits_front b zero n = rw (pow-zero, div-one)
digits_front b (suc k) n =
    let e : n / b / b ^ k ≡ n / b ^ suc k = div-div-eq-div-mul n b (b ^ k) ∙ ap (λ m. n / m) (sym (pow-succ' b k)) in
    rw (digits_front b k (n / b), e)

module _ (b most n : ℕ) where
  fits : ℕ → Bool
  fits k = ltb n (b ^ suc k)

  more : (k : ℕ) → fits k ≡ false → b ^ suc k ≤ n
  unfolding fits
  more k h = ltb-false n (b ^ suc k) h

  pub numeral_length : length (numeral b most n) ≡ places_in b most n
  unfolding numeral
  numeral_length = digits_length b (places_in b most n) n

  pub places_most : places_in b most n ≤ suc most
  unfolding places_in fits
  places_most = omega (arith, first_within fits most)

  -- a number below b ^ suc j has at most suc j digits
  pub places_few : (j : ℕ) → n < b ^ suc j → places_in b most n ≤ suc j
  unfolding places_in fits
  places_few j h =
      ⊎_elim
      (λ (l : j < first_with fits most). absurd (omega (arith, more j (first_before fits most j l))))
      (λ (l : first_with fits most ≤ j). omega arith)
      (split j (first_with fits most))

  -- the fewest digits that hold a number
  module _ (base : 0 < b) (few : n < b ^ suc most) (j : ℕ) (f : IsDigitCount b 1 n (suc j)) where
    too_few : (i : ℕ) → i < j → fits i ≡ false
    unfolding fits
    too_few i l =
        let e : suc j - 1 ≡ j = omega arith in
        let g : b ^ j ≤ n = rw e at (f.2 (omega arith)) in
        le-ltb _ _ (le_trans (pow-le-pow_right {n = b} base l) g)

    pub places : suc j ≡ places_in b most n
    unfolding places_in fits
    places =
        ap suc (sym
        (⊎_elim
        (λ (l : j < most). first_found fits most j l too_few (lt-ltb _ _ f.1))
        (λ (l : most ≤ j). ⊎_elim
        (λ (e : most ≡ j). rw (← e) (first_none fits most (λ i k. too_few i (omega arith))))
        (λ (k : most < j). absurd (omega (arith, more most (too_few most k))))
        (eq-or-lt_of_le l))
        (split j most)))

  pub places_are : (k : ℕ) → 0 < b → n < b ^ suc most → IsDigitCount b 1 n k → k ≡ places_in b most n
  places_are zero base few f = absurd (omega arith)
  places_are (suc j) base few f = places base few j f

-- in base ten and in base two
pub decimal_length : (n : ℕ) → length (decimal_of n) ≡ places_in 10 19 n
unfolding decimal_of
decimal_length n = numeral_length 10 19 n

pub decimal_most : (n j : ℕ) → n < 10 ^ suc j → length (decimal_of n) ≤ suc j
decimal_most n j h = rw decimal_length (places_few 10 19 n j h)

pub decimal_short : (n : ℕ) → length (decimal_of n) ≤ 20
decimal_short n = rw decimal_length (places_most 10 19 n)

pub binary_length : (n : ℕ) → length (binary_of n) ≡ places_in 2 31 n
unfolding binary_of
binary_length n = numeral_length 2 31 n

pub binary_short : (n : ℕ) → length (binary_of n) ≤ 32
binary_short n = rw binary_length (places_most 2 31 n)

-- what `io::decimal` wrote
pub decimal_is : (n k : ℕ) → n < 18446744073709551616 → IsDigitCount 10 1 n k → last_digits 10 k n ≡ decimal_of n
unfolding decimal_of numeral
decimal_is n k few f = rw (← (places_are 10 19 n k (omega arith) (omega arith) f))
