-- The laws of runs of letters and digits, and of the tokens that runs are. Assumes nothing.
use mathlib.Core.Path.{◌≡◌, refl, sym, ap, subst, ◌∙◌}
use mathlib.Core.Bool.{Bool, true, false, not, ◌&&◌, ◌||◌}
use mathlib.Core.List.{List, [], ◌∷◌}
use mathlib.Core.Logic.{inl, inr, ◌⊎◌}
use Prim.Native.Nat.{ℕ, ◌+◌, ◌*◌, ◌-◌, ◌≤◌, ◌<◌}
use native.Mathlib.Nat.{mul-le-mul_right}
use native.Mathlib.Numerals.{add-one}
use native.Mathlib.Omega.{arith}
use borrow.Author.Tests.{leb-true, le-leb, lt-leb, ne_eqb}
use lib.Dec.{leb, eqb}
use lib.ListN.{length, take, drop, length-drop, drop_of_length-le}
use lib.Seq.{take_all, drop-cons}
use Rattle.std.specs.Prelude.{Option, Some, None, MatchOption, IfSome}
use Rattle.std.specs.List.{list_all}
use Rattle.base.specs.Bytes.{byte_at}
use Rattle.base.specs.Below.{every}
use Rattle.base.specs.Cases.{◌∣◌, ◌⇒◌}
use Rattle.base.proofs.Cases.{either_way}
use Rattle.base.proofs.Below.{and_left, and_right}
use Rattle.grammar.specs.Tokens.{tok, word, unknown, number_code, signal_code, variable_code, is_digit, is_small, in_run, run_length, in_base, all_digits, is_numeral, numbered, word_of, run_of}
use Rattle.tokens.specs.declared.Lexeme.{Lexeme}
use Rattle.tokens.specs.declared.Lexeme.TheVariants.{Word as Spelled}
use Rattle.tokens.specs.Answers.{meant, number_as, Word, Stands}

-- the part of a slice from a place on, as a slice of it has it
abbrev pub rest : ℕ → List ℕ → List ℕ
rest i t = take (length t - i) (drop i t)

pub rest_dropped : (i : ℕ) (t : List ℕ) → rest i t ≡ drop i t
rest_dropped i t = take_all (length t - i) (drop i t) (omega (arith, length-drop i t))

pub run_within : (t : List ℕ) → run_length t ≤ length t
unfolding run_length
run_within [] = omega arith
run_within (b ∷ bs) = either_way (in_run b) (λ e. rw e (omega (arith, run_within bs))) (λ e. rw e (omega arith))

pub digits_all : (t : List ℕ) → list_all is_digit t ≡ all_digits t
unfolding all_digits
digits_all [] = refl
digits_all (b ∷ bs) = rw (digits_all bs)

-- the bytes of a run
in_run_small : (b : ℕ) → in_run b ≡ true → (48 ≤ b) × (b ≤ 122)
unfolding in_run is_digit is_small
in_run_small b e = either_way (leb 48 b && leb b 57)
    (λ d. let l = leb-true 48 b (and_left (leb 48 b) (leb b 57) d) in let m = leb-true b 57 (and_right (leb 48 b) (leb b 57) d) in (l, omega arith))
    (λ d. let s : (leb 97 b && leb b 122) ≡ true = rw d at e in let l = leb-true 97 b (and_left (leb 97 b) (leb b 122) s) in (omega arith, leb-true b 122 (and_right (leb 97 b) (leb b 122) s)))

-- more digits say no less
base_least : (base none v : ℕ) (bs : List ℕ) → 1 ≤ base → v ≤ in_base base none v bs
unfolding in_base
base_least base none v [] h = omega arith
base_least base none v (b ∷ bs) h = omega (arith, mul-le-mul_right v h, base_least base none (base * v + (b - none)) bs h)

-- the code of a run is that of no other token
word_apart : (c : ℕ) → (c < 256) ⊎ (260 < c) → Word c
word_apart c (inl h) = record { not_number = λ e. omega (arith, h, e); not_signal = λ e. omega (arith, h, e); not_variable = λ e. omega (arith, h, e); not_logic = λ e. omega (arith, h, e); not_end = λ e. omega (arith, h, e) }
word_apart c (inr h) = record { not_number = λ e. omega (arith, h, e); not_signal = λ e. omega (arith, h, e); not_variable = λ e. omega (arith, h, e); not_logic = λ e. omega (arith, h, e); not_end = λ e. omega (arith, h, e) }

pub word_below : (c : ℕ) → c < 256 → Word c
word_below c h = word_apart c (inl h)

pub word_above : (c : ℕ) → 260 < c → Word c
word_above c h = word_apart c (inr h)

pub run_word : (t : List ℕ) → in_run (byte_at t 0) ≡ true → Word (in_base 256 0 0 t)
unfolding in_base
run_word [] e = word_below 0 (omega arith)
run_word (b ∷ []) e = let (l, m) = in_run_small b e in word_below _ (omega arith)
run_word (b ∷ c ∷ bs) e =
    let (l, m) = in_run_small b e in
    let k = base_least 256 0 (256 * (256 * 0 + (b - 0)) + (c - 0)) bs (omega arith) in
    word_above _ (omega arith)

-- a turn of the loop over the bytes: `i` is a byte, x is what all bytes say, v what those before i say, d the digit at i
module _ (t : List ℕ) (i : ℕ) (h : i < length t) (base none v d x : ℕ) (q : d ≡ byte_at t i - none) (k : x ≡ in_base base none v (drop i t)) where
  pub base_again : x ≡ in_base base none (base * v + d) (drop (i + 1) t)
  unfolding in_base
  base_again = k ∙ rw (add-one, drop-cons t i 0 h, in_base, q)

  pub base_exceeds : (most : ℕ) → 1 ≤ base → most < base * v + d → ◌≡◌ {A = Option ℕ} None (leb x most ⇒ Some x ∣ None)
  base_exceeds most l m =
      let g : most < x = omega (arith, base_again, base_least base none (base * v + d) (drop (i + 1) t) l) in
      rw (lt-leb x most g) refl

-- no byte is left
pub base_over : (t : List ℕ) (i base none v most x : ℕ) → length t ≤ i → v ≤ most → x ≡ in_base base none v (drop i t) → ◌≡◌ {A = Option ℕ} (Some v) (leb x most ⇒ Some x ∣ None)
unfolding in_base
base_over t i base none v most x h l k =
    let e : x ≡ v = k ∙ rw (drop_of_length-le t h, in_base) in
    let g : x ≤ most = omega arith in
    rw (le-leb x most g) (ap (λ y. Some y) (sym e))

-- one digit more fits a word of 64 bits
-- digits without a leading zero
module _ (t : List ℕ) where
  pub no_numeral : length t ≡ 0 → false ≡ is_numeral t
  unfolding is_numeral every
  no_numeral e = rw e

  pub numeral_by : {q : Bool} → (length t ≡ 0 → ⊥) → q ≡ all_digits t → (q && (eqb (length t) 1 || not (eqb (byte_at t 0) 48))) ≡ is_numeral t
  unfolding is_numeral every
  numeral_by n e = let g : 1 ≤ length t = omega arith in rw (le-leb 1 (length t) g, e)

-- the number of a numeral, q being what was found of its digits
module _ (most : ℕ) (t : List ℕ) {q : Bool} (e : q ≡ is_numeral t) where
  pub no_number : q ≡ false → (code : ℕ) → numbered code most t ≡ unknown
  unfolding numbered
  no_number h code = rw (← e, h)

  pub number_read : {o : Option ℕ} → q ≡ true → o ≡ (leb (in_base 10 48 0 t) most ⇒ Some (in_base 10 48 0 t) ∣ None) → (code : ℕ) → numbered code most t ≡ number_as code o
  unfolding numbered
  number_read h k code = rw (← e, h, k) (either_way (leb (in_base 10 48 0 t) most) (λ f. rw f refl) (λ f. rw f refl))

pub number_within : {o : Option ℕ} (x most : ℕ) → o ≡ (leb x most ⇒ Some x ∣ None) → IfSome o (λ v. v ≤ most)
number_within {o} x most k = either_way (leb x most) (λ f. let g : o ≡ Some x = rw f at k in rw g (leb-true x most f)) (λ f. let g : o ≡ None = rw f at k in rw g tt)

pub word_stands : (c : ℕ) → Word c → Stands (Spelled c)
word_stands c w = (w, λ e. cc)

-- the token that is made of a number, or of none
module _ {r : Lexeme} {P : ℕ → Type 0} (make : ℕ → Lexeme) where
  pub number_token : (code : ℕ) (o : Option ℕ) → MatchOption o (r ≡ Spelled 0) P → ((v : ℕ) → P v → r ≡ make v) → ((v : ℕ) → meant (make v) ≡ tok code v) → meant r ≡ number_as code o
  number_token code None m k h = ap meant m
  number_token code (Some v) m k h = ap meant (k v m) ∙ h v

-- the token of a word, o being the code that was read
module _ {r : Lexeme} {P : ℕ → Type 0} (x most : ℕ) (o : Option ℕ) (e : o ≡ (leb x most ⇒ Some x ∣ None)) (m : MatchOption o (r ≡ Spelled 0) P) (k : (v : ℕ) → P v → r ≡ Spelled v) where
  pub code_token : meant r ≡ (leb x most ⇒ word x ∣ unknown)
  code_token = either_way (leb x most)
      (λ f. let g : o ≡ Some x = rw f at e in rw f (ap meant (k x (rw g at m))))
      (λ f. let g : o ≡ None = rw f at e in rw f (ap meant (rw g at m)))

  pub code_stands : Word x → Stands r
  code_stands w = either_way (leb x most)
      (λ f. let g : o ≡ Some x = rw f at e in subst Stands (sym (k x (rw g at m))) (word_stands x w))
      (λ f. let g : o ≡ None = rw f at e in subst Stands (sym (rw g at m)) (word_stands 0 (word_below 0 (omega arith))))

-- the token of a run by its first byte
module _ (r : Lexeme) (t : List ℕ) {q : Bool} (e : q ≡ is_digit (byte_at t 0)) where
  pub number_run : q ≡ true → meant r ≡ numbered number_code 2147483647 t → meant r ≡ run_of t
  unfolding run_of
  number_run h k = rw (← e, h) k

  module _ (h : q ≡ false) where
    pub signal_run : byte_at t 0 ≡ 115 → meant r ≡ numbered signal_code 31 (rest 1 t) → meant r ≡ run_of t
    unfolding run_of
    signal_run i k = rw (← e, h, i, ← rest_dropped 1 t) k

    module _ (i : byte_at t 0 ≡ 115 → ⊥) where
      pub variable_run : byte_at t 0 ≡ 118 → meant r ≡ numbered variable_code 63 (rest 1 t) → meant r ≡ run_of t
      unfolding run_of
      variable_run j k = rw (← e, h, j, ← rest_dropped 1 t) k

      pub word_run : (byte_at t 0 ≡ 118 → ⊥) → meant r ≡ word_of t → meant r ≡ run_of t
      unfolding run_of
      word_run j k = rw (← e, h, ne_eqb (byte_at t 0) 115 i, ne_eqb (byte_at t 0) 118 j) k
