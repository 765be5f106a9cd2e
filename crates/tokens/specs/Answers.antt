-- What the functions for tokens answer.
use Rattle.std.specs.Prelude.{◌≡◌, List, ◌∷◌, true, false, ◌≢◌, ℕ, ◌≤◌, ◌<◌, length, Option, Some, None}
use Rattle.base.specs.Bytes.{byte_at}
use Rattle.grammar.specs.Tokens.{Token, tok, word, unknown, number_code, signal_code, variable_code, logic_code, end_code, logic_of, is_space, is_quoted, token_at, width_at, from}
use Rattle.tokens.specs.declared.Lexeme.{Lexeme}
use Rattle.tokens.specs.declared.Lexeme.TheVariants.{Number, Signal, Variable, Logic, Word as Spelled, End}

-- the token of the grammar that a function tells
abbrev pub meant : Lexeme → Token
meant (Number n) = tok number_code n
meant (Signal n) = tok signal_code n
meant (Variable n) = tok variable_code n
meant (Logic v) = tok logic_code v
meant (Spelled c) = word c
meant End = word end_code

-- the token of a number that was read, or of none
abbrev pub number_as : ℕ → Option ℕ → Token
number_as code (Some v) = tok code v
number_as code None = unknown

-- the code of a word or sign: none of those above
pub record Word (c : ℕ) : Type 0 where
  pub not_number : c ≢ number_code
  pub not_signal : c ≢ signal_code
  pub not_variable : c ≢ variable_code
  pub not_logic : c ≢ logic_code
  pub not_end : c ≢ end_code

-- how large a token's value can be; and the code of a word is none of the others'
abbrev pub Fits : Lexeme → Type 0
Fits (Number n) = n < 2147483648
Fits (Signal n) = n < 32
Fits (Variable n) = n < 64
Fits (Logic v) = v < 9
Fits (Spelled c) = Word c
Fits End = Unit {0}

-- a token that stands in a text, and not its end
abbrev pub Stands : Lexeme → Type 0
Stands token = Fits token × (token ≢ End)

-- the logic value v stands between quotes at the front
pub record QuotedIs (t : List ℕ) (v : ℕ) : Type 0 where
  pub stands : is_quoted t ≡ true
  pub value : v ≡ logic_of (byte_at t 1)
  pub small : v < 9
  pub long : 3 ≤ length t

-- the token at the front, and how many bytes it has
pub record AtFront (t : List ℕ) (token : Lexeme) (next : ℕ) : Type 0 where
  pub told : meant token ≡ token_at t
  pub width : next ≡ width_at t
  pub stands : Stands token
  pub within : (1 ≤ next) × (next ≤ length t)

-- the first place from `at` on that has no space
pub record PastSpaces (text : List ℕ) (at r : ℕ) : Type 0 where
  pub within : (at ≤ r) × (r < length text)
  pub same : from text at ≡ from text r
  pub found : is_space (byte_at text r) ≡ false

-- the first token from a place on, and the place after it; nothing is said of what follows the end mark
pub record FirstToken (text : List ℕ) (at : ℕ) (token : Lexeme) (next : ℕ) : Type 0 where
  pub rest : List Token
  pub begins : from text at ≡ meant token ∷ rest
  pub goes_on : token ≢ End → (rest ≡ from text next) × (at < next)
  pub within : (at ≤ next) × (next ≤ length text)
  pub fits : Fits token

-- the word c stands at a place
pub record FoundWord (text : List ℕ) (at c next : ℕ) : Type 0 where
  pub begins : from text at ≡ word c ∷ from text next
  pub within : (at < next) × (next ≤ length text)
