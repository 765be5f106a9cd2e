-- The text that `loopbench` prints of a model: a line `chain` with the chain's process numbers in base ten, a space before each; `none`;
-- or the number of a refused model alone.
use Rattle.std.specs.Prelude.{◌≡◌, List, [], ◌∷◌, ◌++◌, ℕ, eqb, length, get_or, take}
use Rattle.base.specs.Below.{join_below}
use Rattle.base.specs.Cases.{◌∣◌, ◌⇒◌}
use Rattle.numerals.specs.Numerals.{decimal_of, space, line_feed}
use Rattle.text.specs.Text.{number_line_of, model_room}
use Rattle.loop_check.specs.Check.{Check, check_of}

-- "chain"
abbrev pub chain_word : List ℕ
chain_word = 99 ∷ 104 ∷ 97 ∷ 105 ∷ 110 ∷ []

-- "none" and the end of its line
abbrev pub none_line : List ℕ
none_line = 110 ∷ 111 ∷ 110 ∷ 101 ∷ line_feed ∷ []

-- process numbers, a space before each
unfoldable pub spaced : List ℕ → List ℕ
spaced xs = join_below (λ i. space ∷ decimal_of (get_or xs i 0)) (length xs)

-- the line of a chain
unfoldable pub chain_line : List ℕ → List ℕ
chain_line [] = none_line
chain_line (x ∷ xs) = chain_word ++ (spaced (x ∷ xs) ++ (line_feed ∷ []))

unfoldable pub check_text : Check → List ℕ
check_text r = eqb r.number 0 ⇒ chain_line r.chain ∣ number_line_of r.number

-- the text that the program prints for a model, any bytes
unfoldable pub loop_text : List ℕ → List ℕ
loop_text model = check_text (check_of model)

-- the most characters that a number has, and the space before it
abbrev pub process_most : ℕ
process_most = 21

-- the program's room for its text: a line of 16 processes has at most 342
abbrev pub loop_room : ℕ
loop_room = 512

-- the room for the model is enough: of a file that is longer, the part that the room holds is printed alike
abbrev pub ModelRoomSuffices : Type 0
ModelRoomSuffices = (model : List ℕ) → loop_text (take model_room model) ≡ loop_text model
