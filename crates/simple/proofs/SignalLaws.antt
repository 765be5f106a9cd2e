-- The loop over the signals of a wait.
-- Assumes nothing.
use mathlib.Core.Path.{◌≡◌, refl, sym, ap, subst, ◌∙◌}
use mathlib.Core.List.{List, [], ◌∷◌, ◌++◌, append_assoc}
use Prim.Native.Nat.{ℕ, ◌*◌, ◌%◌, ◌^◌, ◌≤◌, ◌<◌}
use native.Mathlib.Omega.{arith}
use lib.Bits.{bit_or}
use Rattle.grammar.specs.Tokens.{Token, tok, word, signal_code, from, NoWord}
use Rattle.tokens.specs.declared.Lexeme.{Lexeme}
use Rattle.tokens.specs.declared.Lexeme.TheVariants.{Signal}
use Rattle.tokens.specs.Answers.{Fits, FirstToken, FoundWord}
use Rattle.phrases.proofs.Operands.{begins_as, first_within}
use Rattle.grammar.specs.Words.{comma}
use Rattle.grammar.specs.Grammar.{SaysSignals, one_signal, more_signals}
use Rattle.grammar.specs.Made.{set_with}
use Rattle.grammar.proofs.MadeLaws.{set_append}
use Rattle.phrases.proofs.Operands.{leaf_signal}
use Rattle.simple.specs.Waits.{FoundSignals}

signals_at : {ns : List ℕ} {s t r : List Token} → s ≡ t → SaysSignals ns s r → SaysSignals ns t r
signals_at e h = rw e at h

-- signals begin with one
-- behind a comma there are more
after_comma : {ns : List ℕ} {n : ℕ} {s r : List Token} → NoWord r comma → SaysSignals ns (tok signal_code n ∷ word comma ∷ s) r
    → (ms : List ℕ) × (ns ≡ n ∷ ms) × SaysSignals ms s r
after_comma x one_signal = absurd (x _ refl)
after_comma x (more_signals p) = (_, refl, p)

-- one signal more in a set
pub with_signal : (set n : ℕ) → n < 32 → bit_or set (1 * 2 ^ n % 4294967296) ≡ set_with set (n ∷ [])
with_signal set n h = leaf_signal set 4 n refl h

module _ (text : List ℕ) (at : ℕ) where
  -- signals with a comma behind each have been read up to i
  pub record Collects (i set : ℕ) : Type 0 where
    pub done : List ℕ
    pub down : (ns : List ℕ) (r : List Token) → NoWord r comma → SaysSignals ns (from text at) r → (ms : List ℕ) × (ns ≡ done ++ ms) × SaysSignals ms (from text i) r
    pub up : (ms : List ℕ) (r : List Token) → SaysSignals ms (from text i) r → SaysSignals (done ++ ms) (from text at) r
    pub collected : set ≡ set_with 0 done

pub collects_first : (text : List ℕ) (at : ℕ) → Collects text at at 0
unfolding set_with
collects_first text at = record { done = []; down = λ ns r x h. (ns, refl, h); up = λ ms r h. h; collected = refl }

module _ {text : List ℕ} {at i set next : ℕ} {token : Lexeme} (k : Collects text at i set) (t : FirstToken text i token next) where
  module _ (value : ℕ) (e : token ≡ Signal value) where
    pub signal_small : value < 32
    signal_small = subst Fits e t.fits

    here : from text i ≡ tok signal_code value ∷ from text next
    here = begins_as t (Signal value) e (λ z. cc)

    collected_more : {set' : ℕ} → set' ≡ set_with set (value ∷ []) → set' ≡ set_with 0 (k.done ++ (value ∷ []))
    collected_more f = f ∙ ap (λ x. set_with x (value ∷ [])) k.collected ∙ sym (set_append 0 k.done (value ∷ []))

    -- a comma follows
    pub signal_read : {set' x : ℕ} → set' ≡ set_with set (value ∷ []) → FoundWord text next comma x → Collects text at x set'
    signal_read {set'} {x} f w =
        let ds = k.done in
        let there : from text i ≡ tok signal_code value ∷ word comma ∷ from text x = here ∙ ap (λ l. tok signal_code value ∷ l) w.begins in
        record {
          done = ds ++ (value ∷ []);
          down = λ ns r y h.
              let (ms, same, s) = k.down ns r y h in
              let (rest, also, more) = after_comma y (signals_at there s) in
              (rest, same ∙ ap (λ l. ds ++ l) also ∙ sym (append_assoc ds (value ∷ []) rest), more);
          up = λ ms r h.
              subst (λ l. SaysSignals l (from text at) r) (sym (append_assoc ds (value ∷ []) ms)) (k.up (value ∷ ms) r (signals_at (sym there) (more_signals h)));
          collected = collected_more f;
        }

    -- none follows
    pub found_signals : {set' : ℕ} → set' ≡ set_with set (value ∷ []) → NoWord (from text next) comma → at ≤ i → FoundSignals text at next set'
    found_signals f n l = record {
      signals = k.done ++ (value ∷ []);
      says = k.up (value ∷ []) (from text next) (signals_at (sym here) one_signal);
      ends = n;
      collected = collected_more f;
      within = (omega (arith, (first_within t (Signal value) e (λ z. cc)).0), t.within.1);
    }
