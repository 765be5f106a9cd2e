-- Numerals are read back: a decimal number, and a binary one that is extended to 32 digits. Assumes nothing.
use mathlib.Core.Path.{◌≡◌, refl, sym, ap, ◌∙◌}
use mathlib.Core.Bool.{true, false}
use mathlib.Core.List.{[], ◌∷◌, ◌++◌}
use mathlib.Core.Logic.{⊎_elim}
use Prim.Native.Nat.{ℕ, zero, suc, ◌+◌, ◌*◌, ◌-◌, ◌/◌, ◌%◌, ◌^◌, ◌≤◌, ◌<◌}
use native.Mathlib.Nat.{pow-zero, pow-suc, div-lt_iff_lt-mul, div-add-mod, mod-lt}
use native.Mathlib.Omega.{arith}
use borrow.Author.Tests.{lt-ltb}
use Rattle.io.specs.Digits.{hex_digit_ascii, last_digits}
use Rattle.numerals.specs.Numerals.{places_in, numeral, decimal_of, binary_of}
use Rattle.numerals.proofs.NumeralLaws.{digits_length, digits_front, places_most}
use Rattle.numerals.proofs.Reading.{places_some, places_either, places_hold, digits_zeros}
use Rattle.vcd.specs.Lines.{Word}
use Rattle.vcd.specs.Reader.{number_from, number_in, fill_of, extended, is_none}
use Rattle.vcd.proofs.Words.{plain, solid, dark, plain_append}

-- a digit of base ten or less
glyph_is : (d : ℕ) → d < 10 → hex_digit_ascii d ≡ 48 + d
glyph_is d h = rw (lt-ltb d 10 h)

-- digits are no white space
digits_plain : (b k n : ℕ) → 0 < b → b ≤ 10 → plain (last_digits b k n) ≡ true
digits_plain b zero n p h = refl
digits_plain b (suc k) n p h =
    let l : n % b < 10 = omega (arith, mod-lt n p) in
    let g : plain (hex_digit_ascii (n % b) ∷ []) ≡ true = rw (glyph_is (n % b) l, dark (48 + n % b) (omega arith)) in
    plain_append (last_digits b k (n / b)) _ (digits_plain b k (n / b) p h) g

digits_some : (b k n : ℕ) → 0 < k → is_none (last_digits b k n) ≡ false
digits_some b zero n p = absurd (omega arith)
digits_some b (suc k) n p = rw (digits_front b k n)

module _ (n : ℕ) where
  abbrev tens : ℕ
  tens = places_in 10 19 n

  abbrev bits : ℕ
  bits = places_in 2 31 n

  pub decimal_plain : plain (decimal_of n) ≡ true
  unfolding decimal_of numeral
  decimal_plain = digits_plain 10 tens n (omega arith) (omega arith)

  pub decimal_solid : solid (decimal_of n) ≡ true
  unfolding decimal_of numeral
  decimal_solid = rw (digits_some 10 tens n (places_some 10 19 n)) decimal_plain

  pub binary_some : is_none (binary_of n) ≡ false
  unfolding binary_of numeral
  binary_some = digits_some 2 bits n (places_some 2 31 n)

  pub binary_plain : plain (binary_of n) ≡ true
  unfolding binary_of numeral
  binary_plain = digits_plain 2 bits n (omega arith) (omega arith)

-- reading on
number_append : (b n : ℕ) (v w : Word) → number_from b n (v ++ w) ≡ number_from b (number_from b n v) w
number_append b n [] w = refl
number_append b n (d ∷ v) w = number_append b (b * n + (d - 48)) v w

-- a number is read from its digits, in a base up to ten
number_digits : (b k n : ℕ) → 0 < b → b ≤ 10 → n < b ^ k → number_from b 0 (last_digits b k n) ≡ n
number_digits b zero n p t h = let z : n < 1 = rw pow-zero at h in omega arith
number_digits b (suc k) n p t h =
    let g : n < b ^ k * b = rw pow-suc at h in
    let l : n / b < b ^ k = (div-lt_iff_lt-mul {k = b} {x = n} {y = b ^ k} p).1 g in
    let s : n % b < 10 = omega (arith, mod-lt n p) in
    let d : 48 + n % b - 48 ≡ n % b = omega arith in
    rw (number_append, number_digits b k (n / b) p t l, glyph_is (n % b) s, d) (div-add-mod n b)

-- numbers of 32 bits that have the same digits are equal
pub bits_same : (n m : ℕ) → n < 4294967296 → m < 4294967296 → last_digits 2 32 n ≡ last_digits 2 32 m → n ≡ m
bits_same n m h g e =
    sym (number_digits 2 32 n (omega arith) (omega arith) h) ∙ ap (number_from 2 0) e ∙ number_digits 2 32 m (omega arith) (omega arith) g

pub decimal_read : (n : ℕ) → n < 18446744073709551616 → number_in (decimal_of n) ≡ n
unfolding number_in decimal_of numeral
decimal_read n h = number_digits 10 (tens n) n (omega arith) (omega arith) (places_hold 10 19 n (omega arith))

-- the first binary digit is 0 or 1
fill_bit : (d : ℕ) (w : Word) → d < 2 → fill_of (hex_digit_ascii d ∷ w) ≡ 48
fill_bit zero w h = refl
fill_bit (suc zero) w h = refl
fill_bit (suc (suc d)) w h = absurd (omega arith)

fill_digits : (k n : ℕ) → 0 < k → fill_of (last_digits 2 k n) ≡ 48
fill_digits zero n p = absurd (omega arith)
fill_digits (suc k) n p = rw (digits_front 2 k n) (fill_bit (n / 2 ^ k % 2) (last_digits 2 k n) (omega arith))

pub binary_read : (n : ℕ) → extended 32 (binary_of n) ≡ last_digits 2 32 n
unfolding extended binary_of numeral
binary_read n =
    let k = bits n in
    rw (digits_length 2 k n, fill_digits k n (places_some 2 31 n))
    (⊎_elim
    (λ (l : n < 2 ^ k).
    let e : 32 - k + k ≡ 32 = omega (arith, places_most 2 31 n) in
    sym (digits_zeros 2 (32 - k) k n (omega arith) l) ∙ ap (λ j. last_digits 2 j n) e)
    (λ (e : k ≡ 32). rw e)
    (places_either 2 31 n))
