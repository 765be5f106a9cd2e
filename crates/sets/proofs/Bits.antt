-- Sets of signals as bits: a bit of a union, of a set of one, and when two sets have a signal in common. Assumes nothing.
use mathlib.Core.Path.{◌≡◌, refl, sym, ap, ◌∙◌}
use mathlib.Core.Bool.{Bool, true, false, not, ◌&&◌, ◌||◌, true≢false, and-true, and-false, or-false}
use Prim.Native.Nat.{ℕ, zero, suc, ◌*◌, ◌/◌, ◌%◌, ◌^◌, ◌<◌}
use native.Mathlib.Nat.{mod-lt, mod-eq_of_lt, mul-mod_left, div-eq_of_lt, mul-div-mul_right, div-lt_iff_lt-mul, pow-suc, div-one}
use native.Mathlib.Omega.{arith}
use lib.Dec.{eqb, eqb-zero-suc, eqb-suc-zero, eqb-suc-suc, lit<}
use lib.Bits.{bit_and, bit_or, and_shr, and_mod, and_le_l, or_shr, or_mod}
use lib.Pow.{pow-lt, pow_pos}
use borrow.Author.Tests.{eqb-false, eq-eqb, ne_eqb}
use Rattle.base.specs.Below.{any_below}
use Rattle.base.proofs.Below.{any_fails, any_none}
use Rattle.base.proofs.Cases.{either_way}
use Rattle.sets.specs.Sets.{in_set, SetOf}

-- a property of the two digits
by_digit : (P : ℕ → Type 0) → P 0 → P 1 → (x : ℕ) → x < 2 → P x
by_digit P a b zero h = a
by_digit P a b (suc zero) h = b
by_digit P a b (suc (suc x)) h = absurd (omega arith)

two_pos : 0 < 2
two_pos = lit< tt

and_digit : (x y : ℕ) → x < 2 → y < 2 → eqb (bit_and x y) 1 ≡ (eqb x 1 && eqb y 1)
and_digit x y h k =
    by_digit (λ x. eqb (bit_and x y) 1 ≡ (eqb x 1 && eqb y 1)) refl
    (by_digit (λ y. eqb (bit_and 1 y) 1 ≡ (eqb 1 1 && eqb y 1)) refl refl y k) x h

or_digit : (x y : ℕ) → x < 2 → y < 2 → eqb (bit_or x y) 1 ≡ (eqb x 1 || eqb y 1)
or_digit x y h k =
    by_digit (λ x. eqb (bit_or x y) 1 ≡ (eqb x 1 || eqb y 1)) refl
    (by_digit (λ y. eqb (bit_or 1 y) 1 ≡ (eqb 1 1 || eqb y 1)) refl refl y k) x h

module _ (a b s : ℕ) where
  pub in_both : in_set (bit_and a b) s ≡ (in_set a s && in_set b s)
  unfolding in_set
  in_both =
      let e : bit_and (a / 2 ^ s) (b / 2 ^ s) % 2 ≡ bit_and (a / 2 ^ s % 2) (b / 2 ^ s % 2) = and_mod (a / 2 ^ s) (b / 2 ^ s) 1 in
      rw (and_shr a b s, e) (and_digit (a / 2 ^ s % 2) (b / 2 ^ s % 2) (mod-lt _ two_pos) (mod-lt _ two_pos))

  pub in_either : in_set (bit_or a b) s ≡ (in_set a s || in_set b s)
  unfolding in_set
  in_either =
      let e : bit_or (a / 2 ^ s) (b / 2 ^ s) % 2 ≡ bit_or (a / 2 ^ s % 2) (b / 2 ^ s % 2) = or_mod (a / 2 ^ s) (b / 2 ^ s) 1 in
      rw (or_shr a b s, e) (or_digit (a / 2 ^ s % 2) (b / 2 ^ s % 2) (mod-lt _ two_pos) (mod-lt _ two_pos))

-- the set of no signal, and of signal n alone
pub in_none : (s : ℕ) → in_set 0 s ≡ false
unfolding in_set
in_none s = rw (div-eq_of_lt (pow_pos s))

pub in_one : (n s : ℕ) → in_set (2 ^ n) s ≡ eqb n s
unfolding in_set
in_one zero zero = refl
in_one (suc n) zero = rw (eqb-suc-zero n, pow-suc 2 n, div-one (2 ^ n * 2), mul-mod_left (2 ^ n) 2)
in_one zero (suc s) = let h : 1 < 2 ^ suc s = pow-lt {i = 0} {j = suc s} (omega arith) in rw (eqb-zero-suc s, div-eq_of_lt h)
in_one (suc n) (suc s) = rw (eqb-suc-suc n s, pow-suc 2 n, pow-suc 2 s, mul-div-mul_right (2 ^ n) (2 ^ s) two_pos) (in_one n s)

-- a number below 2 ^ n with no bit below n is 0
no_bits : (n x : ℕ) → x < 2 ^ n → ((s : ℕ) → s < n → in_set x s ≡ false) → x ≡ 0
unfolding in_set
no_bits zero x h f = omega arith
no_bits (suc n) x h f =
    let l : x < 2 * 2 ^ n = omega (arith, pow-suc 2 n) in
    let d : x / 2 ^ n < 2 = (div-lt_iff_lt-mul (pow_pos n)).1 l in
    let e : x / 2 ^ n % 2 ≡ x / 2 ^ n = mod-eq_of_lt d in
    let z : x / 2 ^ n ≡ 1 → ⊥ = λ q. eqb-false (x / 2 ^ n % 2) 1 (f n (omega arith)) (e ∙ q) in
    let u : x / 2 ^ n < 1 = omega (arith, z) in
    let k : x < 1 * 2 ^ n = (div-lt_iff_lt-mul (pow_pos n)).0 u in
    no_bits n x (omega arith) (λ s l. f s (omega arith))

-- two sets of which one is below 2 ^ n have a signal in common
module _ (a b n : ℕ) (h : a < 2 ^ n) where
  abbrev both : ℕ → Bool
  both s = in_set a s && in_set b s

  none_common : bit_and a b ≡ 0 → any_below both n ≡ false
  none_common e = any_fails both n (λ s l. sym (in_both a b s) ∙ rw e (in_none s))

  some_common : any_below both n ≡ false → bit_and a b ≡ 0
  some_common e =
      let l : bit_and a b < 2 ^ n = omega (arith, and_le_l a b) in
      no_bits n (bit_and a b) l (λ s k. in_both a b s ∙ any_none both n e s k)

  pub meets : not (eqb (bit_and a b) 0) ≡ any_below both n
  meets =
      either_way (any_below both n)
      (λ e. rw (e, ne_eqb (bit_and a b) 0 (λ q. true≢false (sym e ∙ none_common q))))
      (λ e. rw (e, eq-eqb (bit_and a b) 0 (some_common e)))

-- a set with signal n, where b holds
module _ (set n : ℕ) (b : Bool) where
  pub with_one : n < 32 → b ≡ true → SetOf (λ s. in_set set s || (eqb n s && b)) (bit_or set (1 * 2 ^ n % 4294967296))
  with_one h e =
      let l : 2 ^ n < 4294967296 = pow-lt {i = n} {j = 32} h in
      let o : 1 * 2 ^ n % 4294967296 ≡ 2 ^ n = ap (λ (x : ℕ). x % 4294967296) (omega arith) ∙ mod-eq_of_lt l in
      record { at = λ s k. rw (o, e) (in_either set (2 ^ n) s ∙ rw (in_one n s, and-true)) }

  pub with_none : b ≡ false → SetOf (λ s. in_set set s || (eqb n s && b)) set
  with_none e = record { at = λ s k. rw (e, and-false, or-false) }
