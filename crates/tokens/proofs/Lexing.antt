-- The laws of the token at the front of a text. Assumes nothing.
use mathlib.Core.Path.{◌≡◌, refl, sym, ap, ◌∙◌}
use mathlib.Core.Bool.{Bool, true, false, cond, not, ◌&&◌, ◌||◌, true≢false}
use mathlib.Core.List.{List, [], ◌∷◌}
use mathlib.Core.Logic.{⊎_elim, ◌≢◌}
use Prim.Native.Nat.{ℕ, zero, suc, ◌+◌, ◌*◌, ◌-◌, ◌≤◌, ◌<◌}
use native.Mathlib.Nat.{not-suc-le-zero}
use native.Mathlib.Numerals.{one-add}
use native.Mathlib.Omega.{arith}
use borrow.Author.Tests.{eqb-true, le-leb, ltb-true, ltb-false, not-true}
use lib.Dec.{leb, eqb, ltb}
use lib.ListN.{length, take, drop, drop_of_length-le, length-drop, get_or-eq_default}
use lib.Seq.{length-take-le, drop-cons, drop-drop, get_or-drop}
use Rattle.std.specs.Prelude.{Option, Some, None}
use Rattle.std.specs.List.{position_or_len}
use Rattle.std.proofs.lemmas.List.Sums.{passes_at_first}
use Rattle.std.proofs.lemmas.Option.{cond_some, none-some}
use Rattle.base.specs.Below.{every}
use Rattle.base.specs.Bytes.{byte_at}
use Rattle.base.proofs.Below.{split, and_left, and_true_false, or_cases}
use Rattle.base.proofs.Cases.{either_way}
use Rattle.grammar.specs.Tokens.{Token, tok, word, signal_code, end_code, is_space, in_run, run_length, run_of, logic_of, is_quoted, is_pair, token_at, width_at, tokens_past, tokens, from}
use Rattle.tokens.specs.declared.Lexeme.{Lexeme}
use Rattle.tokens.specs.declared.Lexeme.TheVariants.{Number, Signal, Variable, Logic, Word as Spelled, End}
use Rattle.tokens.specs.Answers.{meant, Word, Fits, Stands, QuotedIs, AtFront, PastSpaces, FirstToken}
use Rattle.tokens.proofs.Runs.{rest, rest_dropped, word_below, word_above, word_stands}

-- a logic value between quotes and a sign of two bytes: a text that has one is so long
module _ (t : List ℕ) where
  pub short_quoted : length t < 3 → is_quoted t ≡ false
  unfolding is_quoted every
  short_quoted h =
      let g : length t ≤ 2 = omega arith in
      let e : eqb (byte_at t 2) 39 ≡ false = rw (get_or-eq_default t 0 g) in
      and_true_false (eqb (byte_at t 0) 39 && leb (logic_of (byte_at t 1)) 8) _ e

  -- no logic value has this letter
  pub no_letter : 9 ≡ logic_of (byte_at t 1) → is_quoted t ≡ false
  unfolding is_quoted every
  no_letter e =
      let f : (eqb (byte_at t 0) 39 && leb (logic_of (byte_at t 1)) 8) ≡ false = and_true_false (eqb (byte_at t 0) 39) (leb (logic_of (byte_at t 1)) 8) (rw (← e)) in
      rw f

  -- q is what was found of the quotes
  pub letter_quoted : {v : ℕ} {q : Bool} → v ≡ logic_of (byte_at t 1) → v < 9 → (eqb (byte_at t 0) 39 && eqb (byte_at t 2) 39) ≡ q → is_quoted t ≡ q
  unfolding is_quoted every
  letter_quoted {v} e l h =
      let f : leb (logic_of (byte_at t 1)) 8 ≡ true = rw (← e) (le-leb v 8 (omega arith)) in
      rw f (between (eqb (byte_at t 0) 39) _ ∙ h)
    where
      between : (a c : Bool) → ((a && true) && c) ≡ (a && c)
      between true c = refl
      between false c = refl

  pub quoted_is : {v : ℕ} → 3 ≤ length t → (v ≡ logic_of (byte_at t 1)) × (v < 9) → (eqb (byte_at t 0) 39 && eqb (byte_at t 2) 39) ≡ true → QuotedIs t v
  quoted_is g (e, l) h = record { stands = letter_quoted e l h; value = e; small = l; long = g }

  pub short_pair : length t < 2 → is_pair t ≡ false
  unfolding is_pair
  short_pair h =
      let g : length t ≤ 1 = omega arith in
      let e : eqb (byte_at t 1) 61 ≡ false = rw (get_or-eq_default t 0 g) in
      and_true_false (eqb (byte_at t 0) 58 || eqb (byte_at t 0) 60) _ e

  pub pair_long : is_pair t ≡ true → 2 ≤ length t
  pair_long e = ⊎_elim (λ (l : length t < 2). absurd (true≢false (sym e ∙ short_pair l))) (λ (l : 2 ≤ length t). l) (split (length t) 2)

  pair_apart : is_pair t ≡ true → 260 < 256 * byte_at t 0 + byte_at t 1
  unfolding is_pair
  pair_apart e = ⊎_elim (λ a. let b = eqb-true (byte_at t 0) 58 a in omega (arith, b)) (λ a. let b = eqb-true (byte_at t 0) 60 a in omega (arith, b))
      (or_cases (eqb (byte_at t 0) 58) (eqb (byte_at t 0) 60) (and_left _ (eqb (byte_at t 1) 61) e))

run_begun : (t : List ℕ) → 1 ≤ length t → in_run (byte_at t 0) ≡ true → 1 ≤ run_length t
unfolding run_length
run_begun [] h e = absurd (not-suc-le-zero h)
run_begun (b ∷ bs) h e = rw e (omega arith)

-- the run at the front of a text begins with the text's first byte
first_taken : (n : ℕ) (t : List ℕ) → 1 ≤ n → byte_at (take n t) 0 ≡ byte_at t 0
first_taken zero t h = absurd (not-suc-le-zero h)
first_taken (suc n) [] h = refl
first_taken (suc n) (b ∷ bs) h = refl

pub run_taken : (t : List ℕ) (n : ℕ) → 1 ≤ length t → in_run (byte_at t 0) ≡ true → (n ≡ run_length t) × (n ≤ length t) → (1 ≤ length (take n t)) × (in_run (byte_at (take n t) 0) ≡ true)
run_taken t n h e (m, l) =
    let g : 1 ≤ n = omega (arith, run_begun t h e) in
    (omega (arith, length-take-le n t l), ap in_run (first_taken n t g) ∙ e)

-- the token by its first bytes, each test being what was found of it
module _ (t : List ℕ) (l : 1 ≤ length t) {q : Bool} (e : q ≡ in_run (byte_at t 0)) where
  pub at_run : {r : Lexeme} (n : ℕ) → q ≡ true → (n ≡ run_length t) × (n ≤ length t) → meant r ≡ run_of (take n t) → Stands r → AtFront t r n
  unfolding token_at width_at
  at_run n h (m, s) k f =
      let g : in_run (byte_at t 0) ≡ true = sym e ∙ h in
      let begun : 1 ≤ n = omega (arith, run_begun t l g) in
      record { told = rw (g, ← m) k; width = rw g m; stands = f; within = (begun, s) }

  module _ (h : q ≡ false) where
    pub at_quoted : {v : ℕ} → QuotedIs t v → AtFront t (Logic v) 3
    unfolding token_at width_at
    at_quoted r =
        let g : in_run (byte_at t 0) ≡ false = sym e ∙ h in
        record { told = rw (g, r.stands, r.value); width = rw (g, r.stands); stands = (r.small, λ e. cc); within = (omega arith, r.long) }

    module _ (h' : is_quoted t ≡ false) {b : ℕ} (s : b ≡ byte_at t 0) {q' : Bool} (e' : q' ≡ is_pair t) where
      pub at_pair : {d : ℕ} → d ≡ byte_at t 1 → q' ≡ true → AtFront t (Spelled (256 * b + d)) 2
      unfolding token_at width_at
      at_pair {d} s' h'' =
          let g : in_run (byte_at t 0) ≡ false = sym e ∙ h in
          let g' : is_pair t ≡ true = sym e' ∙ h'' in
          record {
            told = rw (g, h', g', s, s');
            width = rw (g, h', g');
            stands = word_stands _ (word_above (256 * b + d) (rw (s, s') (pair_apart t g')));
            within = (omega arith, pair_long t g');
          }

      pub at_sign : b < 256 → q' ≡ false → AtFront t (Spelled b) 1
      unfolding token_at width_at
      at_sign small h'' =
          let g : in_run (byte_at t 0) ≡ false = sym e ∙ h in
          let g' : is_pair t ≡ false = sym e' ∙ h'' in
          record { told = rw (g, h', g', s); width = rw (g, h', g'); stands = word_stands b (word_below b small); within = (omega arith, l) }

-- bytes left out by number are left out of the text
past_dropped : (n : ℕ) (bs : List ℕ) → tokens_past n bs ≡ tokens (drop n bs)
unfolding tokens_past tokens
past_dropped zero [] = refl
past_dropped (suc n) [] = refl
past_dropped zero (b ∷ bs) = refl
past_dropped (suc n) (b ∷ bs) = past_dropped n bs

front_token : (t : List ℕ) → 1 ≤ length t → is_space (byte_at t 0) ≡ false → 1 ≤ width_at t → tokens t ≡ token_at t ∷ tokens (drop (width_at t) t)
unfolding tokens_past tokens
front_token [] h e w = absurd (not-suc-le-zero h)
front_token (b ∷ bs) h e w =
    let k : width_at (b ∷ bs) ≡ suc (width_at (b ∷ bs) - 1) = omega arith in
    rw e (ap (λ r. token_at (b ∷ bs) ∷ r) (past_dropped (width_at (b ∷ bs) - 1) bs ∙ ap (λ n. tokens (drop n (b ∷ bs))) (sym k)))

from_token : (text : List ℕ) (i : ℕ) → i < length text → is_space (byte_at text i) ≡ false → 1 ≤ width_at (drop i text)
    → from text i ≡ token_at (drop i text) ∷ from text (i + width_at (drop i text))
from_token text i h e w =
    let f : is_space (byte_at (drop i text) 0) ≡ false = rw (drop-cons text i 0 h) e in
    front_token (drop i text) (omega (arith, length-drop i text)) f w ∙ rw (drop-drop (width_at (drop i text)) i text)

-- the spaces at the front are left out
abbrev pub no_space : ℕ → Bool
no_space b = not (is_space b)

spaces_left : (t : List ℕ) → tokens t ≡ tokens (drop (position_or_len no_space t) t)
unfolding tokens_past tokens
spaces_left [] = refl
spaces_left (b ∷ bs) = either_way (is_space b) (λ e. rw (e, one-add) (spaces_left bs)) (λ e. rw (e, e) refl)

-- what a search for a byte that is no space answers, r
module _ (text : List ℕ) (at : ℕ) {r : Option ℕ} (e : r ≡ cond (ltb (position_or_len no_space (rest at text)) (length (rest at text))) (Some (position_or_len no_space (rest at text))) None) where
  pub spaces_over : r ≡ None → from text at ≡ word end_code ∷ []
  unfolding tokens_past tokens
  spaces_over n =
      let f = rw (rest_dropped at text) at e in
      let l : length (drop at text) ≤ position_or_len no_space (drop at text) =
      either_way (ltb (position_or_len no_space (drop at text)) (length (drop at text))) (λ g. absurd (none-some _ (sym n ∙ rw g at f))) (λ g. ltb-false _ _ g) in
      spaces_left (drop at text) ∙ rw (drop_of_length-le (drop at text) l, tokens_past)

  pub space_found : at ≤ length text → (n : ℕ) → r ≡ Some n → PastSpaces text at (at + n)
  space_found h n s =
      let f = rw (rest_dropped at text) at e in
      let (less, same) = cond_some (ltb (position_or_len no_space (drop at text)) (length (drop at text))) _ _ (sym f ∙ s) in
      let l = ltb-true _ _ less in
      let here : no_space (byte_at (drop at text) n) ≡ true = rw same at (passes_at_first no_space (drop at text) 0 l) in
      record {
        within = (omega arith, omega (arith, l, same, length-drop at text));
        same = spaces_left (drop at text) ∙ rw (same, drop-drop n at text);
        found = not-true _ (rw (get_or-drop at text n 0) at here);
      }

pub first_token : (text : List ℕ) (at i n : ℕ) {r : Lexeme} → PastSpaces text at i → AtFront (rest i text) r n → FirstToken text at r (i + n)
first_token text at i n {r} p h =
    let f : AtFront (drop i text) r n = rw (rest_dropped i text) at h in
    let (q, s) = p.within in
    let g : 1 ≤ width_at (drop i text) = omega (arith, f.width, f.within) in
    let k : i + n ≤ length text = omega (arith, length-drop i text, f.within) in
    record {
      rest = from text (i + n);
      begins = p.same ∙ from_token text i s p.found g ∙ rw (f.told, f.width);
      goes_on = λ e. (refl, omega (arith, f.within));
      within = (omega arith, k);
      fits = f.stands.0;
    }

pub first_end : (text : List ℕ) (at : ℕ) → at ≤ length text → from text at ≡ word end_code ∷ [] → FirstToken text at End (length text)
first_end text at h e = record { rest = []; begins = e; goes_on = λ n. absurd (n refl); within = (h, omega arith); fits = tt }

-- the codes of equal tokens
code_same : {c d v x : ℕ} {s r : List Token} → tok c v ∷ s ≡ tok d x ∷ r → c ≡ d
code_same e = cc

-- a token that is another
pub other_word : {c : ℕ} {s r : List Token} (token : Lexeme) → Word c → token ≢ Spelled c → meant token ∷ s ≡ word c ∷ r → ⊥
other_word (Number n) w h e = w.not_number (cc)
other_word (Signal n) w h e = w.not_signal (cc)
other_word (Variable n) w h e = w.not_variable (cc)
other_word (Logic v) w h e = w.not_logic (cc)
other_word (Spelled d) w h e = h (cc)
other_word End w h e = w.not_end (cc)

pub other_signal : {n : ℕ} {s r : List Token} (token : Lexeme) → Fits token → ((k : ℕ) → token ≢ Signal k) → meant token ∷ s ≡ tok signal_code n ∷ r → ⊥
other_signal (Number k) f h e = omega (arith, code_same e)
other_signal (Signal k) f h e = h k refl
other_signal (Variable k) f h e = omega (arith, code_same e)
other_signal (Logic v) f h e = omega (arith, code_same e)
other_signal (Spelled c) f h e = f.not_signal (code_same e)
other_signal End f h e = omega (arith, code_same e)

pub other_end : {s r : List Token} (token : Lexeme) → Fits token → token ≢ End → meant token ∷ s ≡ word end_code ∷ r → ⊥
other_end (Number k) f h e = omega (arith, code_same e)
other_end (Signal k) f h e = omega (arith, code_same e)
other_end (Variable k) f h e = omega (arith, code_same e)
other_end (Logic v) f h e = omega (arith, code_same e)
other_end (Spelled c) f h e = f.not_end (code_same e)
other_end End f h e = h refl
