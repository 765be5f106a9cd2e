-- The tokens of a text (document 02, item 12).
-- "Names are s0 to s31 and v0 to v63"; "Tokens may have spaces and line feeds around them, and must between words or numbers; lower case but
-- for logic values, no leading zeros."; "Expressions are unsigned integers, logic values as '0' or 'U', names".
-- A token is a run of small letters and digits, as long as it goes on, a logic value between quotes, or a sign. So two words or numbers that
-- have nothing between them are one run, and no word.
use Rattle.std.specs.Prelude.{◌≡◌, Bool, true, not, ◌&&◌, ◌||◌, List, [], ◌∷◌, ℕ, zero, suc, ◌+◌, ◌*◌, ◌-◌, eqb, leb, length, take, drop}
use Rattle.base.specs.Below.{every}
use Rattle.base.specs.Bytes.{byte_at}
use Rattle.base.specs.Cases.{◌∣◌, ◌⇒◌, ◌is◌⇒◌}

-- a token has a code; a number, a name or a logic value has its value besides
pub data Token : Type 0 where
  tok : ℕ → ℕ → Token

abbrev pub number_code : ℕ
number_code = 256

abbrev pub signal_code : ℕ
signal_code = 257

abbrev pub variable_code : ℕ
variable_code = 258

abbrev pub logic_code : ℕ
logic_code = 259

-- the mark behind the last token
abbrev pub end_code : ℕ
end_code = 260

-- a word or a sign, by its code: its bytes, put together in base 256
abbrev pub word : ℕ → Token
word c = tok c 0

-- what is no token of the grammar
abbrev pub unknown : Token
unknown = word 0

-- "spaces and line feeds"
unfoldable pub is_space : ℕ → Bool
is_space b = eqb b 32 || eqb b 10

unfoldable pub is_digit : ℕ → Bool
is_digit b = leb 48 b && leb b 57

unfoldable pub is_small : ℕ → Bool
is_small b = leb 97 b && leb b 122

-- a letter or digit of a word, name or number
unfoldable pub in_run : ℕ → Bool
in_run b = is_digit b || is_small b

-- how many letters and digits stand at the front
unfoldable pub run_length : List ℕ → ℕ
run_length [] = 0
run_length (b ∷ bs) = in_run b ⇒ suc (run_length bs) ∣ 0

-- the number that v and the digits behind it say in a base; `origin` is the byte of the digit 0
unfoldable pub in_base : ℕ → ℕ → ℕ → List ℕ → ℕ
in_base base origin v [] = v
in_base base origin v (b ∷ bs) = in_base base origin (base * v + (b - origin)) bs

unfoldable pub all_digits : List ℕ → Bool
all_digits [] = true
all_digits (b ∷ bs) = is_digit b && all_digits bs

-- digits, at least one and "no leading zeros"
unfoldable pub is_numeral : List ℕ → Bool
is_numeral r = every (leb 1 (length r) ∷ all_digits r ∷ (eqb (length r) 1 || not (eqb (byte_at r 0) 48)) ∷ [])

-- the number that a numeral says, where it is at most so large: "a number out of range" is no token
unfoldable pub numbered : ℕ → ℕ → List ℕ → Token
numbered code most r = is_numeral r && leb (in_base 10 48 0 r) most ⇒ tok code (in_base 10 48 0 r) ∣ unknown

-- the largest code of a word of seven letters
abbrev pub most_word : ℕ
most_word = 72057594037927935

-- a word, if it has at most seven letters: the longest is `delayed`
unfoldable pub word_of : List ℕ → Token
word_of r = leb (in_base 256 0 0 r) most_word ⇒ word (in_base 256 0 0 r) ∣ unknown

-- the token that a run is: a number, a signal's name (s), a variable's name (v) or a word
unfoldable pub run_of : List ℕ → Token
run_of r =
    is_digit (byte_at r 0) ⇒ numbered number_code 2147483647 r
    ∣ byte_at r 0 is 115 ⇒ numbered signal_code 31 (drop 1 r)
    ∣ byte_at r 0 is 118 ⇒ numbered variable_code 63 (drop 1 r)
    ∣ word_of r

-- the code of a logic value by its letter: U X 0 1 Z W L H -; 9 is none
unfoldable pub logic_of : ℕ → ℕ
logic_of b =
    b is 85 ⇒ 0
    ∣ b is 88 ⇒ 1
    ∣ b is 48 ⇒ 2
    ∣ b is 49 ⇒ 3
    ∣ b is 90 ⇒ 4
    ∣ b is 87 ⇒ 5
    ∣ b is 76 ⇒ 6
    ∣ b is 72 ⇒ 7
    ∣ b is 45 ⇒ 8
    ∣ 9

-- a logic value between quotes stands at the front
unfoldable pub is_quoted : List ℕ → Bool
is_quoted t = every (eqb (byte_at t 0) 39 ∷ leb (logic_of (byte_at t 1)) 8 ∷ eqb (byte_at t 2) 39 ∷ [])

-- := or <= stands at the front
unfoldable pub is_pair : List ℕ → Bool
is_pair t = (eqb (byte_at t 0) 58 || eqb (byte_at t 0) 60) && eqb (byte_at t 1) 61

-- the token at the front of a text that begins with no space, and how many bytes it has. A byte that begins no other token is a sign.
unfoldable pub token_at : List ℕ → Token
token_at t =
    in_run (byte_at t 0) ⇒ run_of (take (run_length t) t)
    ∣ is_quoted t ⇒ tok logic_code (logic_of (byte_at t 1))
    ∣ is_pair t ⇒ word (256 * byte_at t 0 + byte_at t 1)
    ∣ word (byte_at t 0)

unfoldable pub width_at : List ℕ → ℕ
width_at t =
    in_run (byte_at t 0) ⇒ run_length t
    ∣ is_quoted t ⇒ 3
    ∣ is_pair t ⇒ 2
    ∣ 1

-- the tokens of a text and the mark at its end, its first bytes left out: so many of them belong to a token already told
unfoldable pub tokens_past : ℕ → List ℕ → List Token
tokens_past n [] = word end_code ∷ []
tokens_past (suc n) (b ∷ bs) = tokens_past n bs
tokens_past zero (b ∷ bs) = is_space b ⇒ tokens_past 0 bs ∣ (token_at (b ∷ bs) ∷ tokens_past (width_at (b ∷ bs) - 1) bs)

unfoldable pub tokens : List ℕ → List Token
tokens text = tokens_past 0 text

-- the tokens from a place on
abbrev pub from : List ℕ → ℕ → List Token
from text at = tokens (drop at text)

-- the tokens do not begin with the word c
abbrev pub NoWord : List Token → ℕ → Type 0
NoWord s c = (r : List Token) → s ≡ word c ∷ r → ⊥
