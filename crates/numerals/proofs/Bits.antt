-- Loops over binary digits: how many a number has, and digits written from the last one on. Assumes nothing.
use mathlib.Core.Path.{◌≡◌, refl, ◌∙◌}
use mathlib.Core.List.{List}
use Prim.Native.Nat.{ℕ, suc, max, ◌+◌, ◌*◌, ◌-◌, ◌/◌, ◌%◌, ◌^◌, ◌≤◌, ◌<◌}
use native.Mathlib.Nat.{pow-le-pow_right, pow-succ', div-div-eq-div-mul, pow-suc, div-one, pow-zero}
use native.Mathlib.Numerals.{add-one}
use native.Mathlib.Omega.{arith}
use borrow.Author.Tests.{lt-ltb}
use lib.ListN.{length, set, drop, length-set, drop_of_length-le}
use lib.Seq.{drop-cons, drop-set-lt, get_or-set_same}
use Rattle.io.specs.Digits.{hex_digit_ascii, last_digits}
use Rattle.numerals.specs.Numerals.{places_in}
use Rattle.numerals.proofs.NumeralLaws.{digits_front, places_are}

-- one digit more than the place of the highest bit, 1 for 0
pub places_of_log : (x r m : ℕ) → x < 4294967296 → m ≡ max x 1 → 2 ^ r ≤ m → m < 2 * 2 ^ r → r + 1 ≡ places_in 2 31 x
places_of_log x r m small q low high =
    let e : r + 1 ≡ suc r = add-one r in
    let d : r + 1 - 1 ≡ r = omega arith in
    places_are 2 31 x (r + 1) (omega arith) (omega arith)
    (omega arith, rw (e, pow-succ' 2 r) (omega arith), λ l. rw d (above l))
  where
    above : 1 < r + 1 → 2 ^ r ≤ x
    above l =
        let g : 1 ≤ r = omega arith in
        let p : 2 ^ 1 ≤ 2 ^ r = pow-le-pow_right {n = 2} (omega arith) g in
        omega arith

-- the last k digits are written, and rest has those before them
pub record Digits (x n : ℕ) (out : List ℕ) (rest k : ℕ) : Type 0 where
  pub long : length out ≡ n
  pub left : rest ≡ x / 2 ^ k
  pub done : drop (n - k) out ≡ last_digits 2 k x

pub no_digits : (x : ℕ) (out : List ℕ) → Digits x (length out) out x 0
no_digits x out =
    record { long = refl; left = rw (pow-zero, div-one); done = drop_of_length-le out {i = length out - 0} (omega arith) }

module _ {x n : ℕ} {out : List ℕ} {rest k : ℕ} (d : Digits x n out rest k) (h : k < n) where
  -- the next digit to the left
  pub next_digit : Digits x n (set out (n - 1 - k) (48 + rest % 2)) (rest / 2) (k + 1)
  next_digit =
      let i = n - 1 - k in
      let l : i < length out = omega (arith, d.long) in
      let s : suc i ≡ n - k = omega arith in
      let j : n - suc k ≡ i = omega arith in
      let o = set out i (48 + rest % 2) in
      let m : i < length o = rw length-set l in
      let g : hex_digit_ascii (rest % 2) ≡ 48 + rest % 2 = rw (lt-ltb (rest % 2) 10 (omega arith)) in
      record {
        long = length-set out i _ ∙ d.long;
        left = rw (add-one, pow-suc, ← (div-div-eq-div-mul x (2 ^ k) 2), ← d.left);
        done = rw (add-one, j) (drop-cons o i 0 m
            ∙ rw (get_or-set_same out i (48 + rest % 2) 0 l, s, drop-set-lt (n - k) out i (48 + rest % 2) (omega arith), d.done, digits_front 2 k x, ← d.left, g));
      }

pub all_digits : {x n : ℕ} {out : List ℕ} {rest k : ℕ} → Digits x n out rest k → k ≤ n → n ≤ k → out ≡ last_digits 2 n x
all_digits {n = n} {k = k} d l h =
    let e : k ≡ n = omega arith in
    let z : n - n ≡ 0 = omega arith in
    rw (e, z) at d.done
