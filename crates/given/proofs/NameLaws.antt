-- The laws of the names of a text, token by token.
-- Assumes nothing.
use mathlib.Core.Path.{◌≡◌, refl, sym, ap, ◌∙◌}
use mathlib.Core.Bool.{Bool, true, false, ◌&&◌}
use mathlib.Core.List.{List, ◌∷◌}
use mathlib.Core.Logic.{◌≢◌}
use Prim.Native.Nat.{ℕ}
use borrow.Author.Tests.{ne_eqb}
use Rattle.grammar.specs.Tokens.{Token, signal_code, variable_code, end_code, from}
use Rattle.tokens.specs.declared.Lexeme.{Lexeme}
use Rattle.tokens.specs.declared.Lexeme.TheVariants.{Number, Signal, Variable, Logic, Word, End}
use Rattle.tokens.specs.Answers.{meant, Fits, FirstToken}
use Rattle.given.specs.Names.{name_ok, token_ok, names_ok}

-- a token that is no name
module _ (signals variables : ℕ) where
  pub no_name : (token : Lexeme) → Fits token → ((n : ℕ) → token ≡ Signal n → ⊥) → ((n : ℕ) → token ≡ Variable n → ⊥) → true ≡ token_ok signals variables (meant token)
  unfolding name_ok
  no_name (Number n) f a b = refl
  no_name (Signal n) f a b = absurd (a n refl)
  no_name (Variable n) f a b = absurd (b n refl)
  no_name (Logic v) f a b = refl
  no_name (Word c) f a b = rw (ne_eqb c signal_code f.not_signal, ne_eqb c variable_code f.not_variable)
  no_name End f a b = refl

-- a token that is not the end is judged, and then the others
not_end : (signals variables : ℕ) (rest : List Token) (token : Lexeme) → Fits token → token ≢ End
    → names_ok signals variables (meant token ∷ rest) ≡ (token_ok signals variables (meant token) && names_ok signals variables rest)
unfolding names_ok
not_end signals variables rest (Number k) f n = refl
not_end signals variables rest (Signal k) f n = refl
not_end signals variables rest (Variable k) f n = refl
not_end signals variables rest (Logic v) f n = refl
not_end signals variables rest (Word c) f n = rw (ne_eqb c end_code f.not_end)
not_end signals variables rest End f n = absurd (n refl)

-- the first token of those that are left, q being what was found of its name: it ends the text, is no name of the records, or the rest decides
module _ (signals variables : ℕ) {text : List ℕ} {at next : ℕ} {token : Lexeme} {b : Bool} (h : b ≡ names_ok signals variables (from text at)) (t : FirstToken text at token next) where
  pub names_end : token ≡ End → true ≡ b
  unfolding names_ok
  names_end e = sym (h ∙ rw (t.begins, e))

  module _ (n : token ≢ End) {q : Bool} (r : q ≡ token_ok signals variables (meant token)) where
    first_decides : b ≡ (q && names_ok signals variables (from text next))
    first_decides = h ∙ ap (names_ok signals variables) t.begins ∙ not_end signals variables t.rest token t.fits n ∙ rw ((t.goes_on n).0, r)

    pub names_broken : q ≡ false → false ≡ b
    names_broken e = sym (first_decides ∙ rw e)

    pub names_again : q ≡ true → b ≡ names_ok signals variables (from text next)
    names_again e = first_decides ∙ rw e
