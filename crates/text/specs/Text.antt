-- The text that the program prints: "a line per answer: refusal, byte 1, picks, value (bytes 4-7, signed), time, in base ten with
-- one space between (a refused session: its number alone)". Document 02, item 3: "From here on `playbench` prints value and node as two
-- columns, in the bench case too: byte 4 and bytes 6-7 for a pick, bytes 4 to 7 and 0 for other orders."
use Rattle.std.specs.Prelude.{◌≡◌, List, [], ◌∷◌, ◌++◌, ℕ, ◌*◌, ◌-◌, ◌/◌, ◌≤◌, eqb, ltb, length, take, drop, replicate}
use Rattle.base.specs.Below.{list_below}
use Rattle.base.specs.Bytes.{byte_at, word_at, long_at}
use Rattle.base.specs.Cases.{◌∣◌, ◌⇒◌, ◌is◌⇒◌}
use Rattle.io.specs.Counts.{IsPrefixLen}
use Rattle.numerals.specs.Numerals.{decimal_of, space, line_feed}
use Rattle.session.specs.Lists.{Order, orders_of, time_in}
use Rattle.session.specs.Sessions.{Session, session_of}

abbrev pub minus : ℕ
minus = 45

-- 32 bits as a signed number
unfoldable pub signed_of : ℕ → List ℕ
signed_of v = ltb v 2147483648 ⇒ decimal_of v ∣ (minus ∷ decimal_of (4294967296 - v))

-- a text and the character behind it
abbrev pub ended : List ℕ → ℕ → List ℕ
ended text c = text ++ (c ∷ [])

-- value and node of the answer to an order of that kind: "byte 4 and bytes 6-7 for a pick, bytes 4 to 7 and 0 for other orders"
abbrev pub value_in : ℕ → List ℕ → ℕ
value_in kind a = kind is 1 ⇒ byte_at a 4 ∣ long_at a 4

abbrev pub node_in : ℕ → List ℕ → ℕ
node_in kind a = kind is 1 ⇒ word_at a 6 ∣ 0

-- a line of six columns
abbrev pub columns : ℕ → ℕ → ℕ → ℕ → ℕ → ℕ → List ℕ
columns refusal byte picks value node time =
    ended (decimal_of refusal) space
    ++ ended (decimal_of byte) space
    ++ ended (decimal_of picks) space
    ++ ended (signed_of value) space
    ++ ended (decimal_of node) space
    ++ ended (decimal_of time) line_feed

-- the line of the answer to an order of that kind
unfoldable pub line_of : ℕ → List ℕ → List ℕ
line_of kind a = columns (byte_at a 0) (byte_at a 1) (word_at a 2) (value_in kind a) (node_in kind a) (time_in a)

-- the line of a refused session
abbrev pub number_line_of : ℕ → List ℕ
number_line_of n = ended (decimal_of n) line_feed

-- the answers that a buffer holds, 16 bytes each
unfoldable pub answers_in : List ℕ → List (List ℕ)
answers_in buffer = list_below (λ i. take 16 (drop (16 * i) buffer)) (length buffer / 16)

-- the lines of the answers to some orders, one after the other
abbrev pub lines_of : List Order → List (List ℕ) → List ℕ
lines_of [] answers = []
lines_of (o ∷ os) [] = []
lines_of (o ∷ os) (a ∷ rest) = line_of o.kind a ++ lines_of os rest

-- the text of a session of some orders: "a line per answer [..] (a refused session: its number alone)"
unfoldable pub session_text : List Order → Session → List ℕ
session_text os s = eqb s.number 0 ⇒ lines_of os (answers_in s.buffer) ∣ number_line_of s.number

-- the text that the program prints for a model and orders, any bytes: the answer buffer is four times as long as the orders
unfoldable pub text_of : List ℕ → List ℕ → List ℕ
text_of model orders = session_text (orders_of orders) (session_of model orders (replicate (4 * length orders) 0))

-- the most characters that a line has: 3, 3, 5, 11, 5 and 20, and one behind each
abbrev pub line_most : ℕ
line_most = 53

-- the program's rooms for its two files, each a byte more than the longest that is played, and for the text of 4,096 answers
abbrev pub model_room : ℕ
model_room = 32769

abbrev pub orders_room : ℕ
orders_room = 16385

abbrev pub text_room : ℕ
text_room = 4096 * line_most

-- the rooms for the files are enough for what a program prints: of a file that is longer than its room, the part that the room holds is
-- printed alike
abbrev pub RoomsSuffice : (List ℕ → List ℕ → List ℕ) → Type 0
RoomsSuffice print = (model orders : List ℕ) → print (take model_room model) (take orders_room orders) ≡ print model orders

-- n bytes hold the answers to the orders, where a session takes so many
pub record AnswerRoom (orders : List ℕ) (n : ℕ) : Type 0 where
  pub most : n ≤ 65536
  pub all : length orders ≤ 16384 → n ≡ 4 * length orders

-- the first r bytes of `out` are what is printed; what stands behind them is left open
pub record Prints (printed out : List ℕ) (r : ℕ) : Type 0 where
  pub within : IsPrefixLen r out
  pub text : take r out ≡ printed
