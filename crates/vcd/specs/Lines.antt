-- A text as lines of words, and the keywords that a dump and its reader share.
use Rattle.std.specs.Prelude.{Bool, true, false, ◌&&◌, List, [], ◌∷◌, ◌++◌, ℕ, zero, suc, eqb}
use Prim.Native.Char.{code}
use Prim.Native.String.{String, len, char_at}
use Rattle.numerals.specs.Numerals.{space, line_feed}

abbrev pub Word : Type 0
Word = List ℕ

-- the codes of the characters of a text, a byte each
abbrev pub codes_from : String → ℕ → ℕ → Word
codes_from s i zero = []
codes_from s i (suc n) = code (char_at s i) ∷ codes_from s (suc i) n

abbrev pub word_of : String → Word
word_of s = codes_from s 0 (len s)

abbrev pub Line : Type 0
Line = List Word

-- a line: a space between two words, and a line feed at the end
abbrev pub spaced : Line → List ℕ
spaced [] = line_feed ∷ []
spaced (w ∷ []) = w ++ (line_feed ∷ [])
spaced (w ∷ v ∷ ws) = w ++ (space ∷ spaced (v ∷ ws))

-- lines, one after the other
unfoldable pub text_of : List Line → List ℕ
text_of [] = []
text_of (l ∷ ls) = spaced l ++ text_of ls

-- two words are the same
abbrev pub same_word : Word → Word → Bool
same_word [] [] = true
same_word [] (y ∷ ys) = false
same_word (x ∷ xs) [] = false
same_word (x ∷ xs) (y ∷ ys) = eqb x y && same_word xs ys

-- keywords of IEEE 1364
abbrev pub var : Word
var = word_of "$var"

abbrev pub end : Word
end = word_of "$end"

abbrev pub enddefinitions : Word
enddefinitions = word_of "$enddefinitions"
