-- A value change dump of IEEE 1364, four-state, as document 02 has it in item 7: the lines of a run's rows, each the time and the
-- signals' settled values at it. The types of the signals are those of their records: 0 integer, 1 logic.
use Rattle.std.specs.Prelude.{Bool, true, not, List, [], ◌∷◌, ◌++◌, ℕ, zero, suc, ◌+◌, length, get_or}
use Prim.Native.Char.{code}
use Rattle.base.specs.Below.{any_below, join_below, list_below}
use Rattle.base.specs.Cases.{◌∣◌, ◌⇒◌, ◌is◌⇒◌}
use Rattle.values.specs.Nine.{‘0’, ‘1’, Z, L, H}
use Rattle.numerals.specs.Numerals.{decimal_of, binary_of}
use Rattle.vcd.specs.Lines.{Word, word_of, Line, same_word, text_of, var, end, enddefinitions}

-- a time of the run, and the settled values of all signals at it
pub record Row : Type 0 where
  pub time : ℕ
  pub values : List ℕ

abbrev pub integer : ℕ
integer = 0

-- "U X W - become x, L becomes 0, H becomes 1, Z becomes z"
unfoldable pub character_of : ℕ → ℕ
character_of v =
    v is ‘0’ ⇒ code "0"
    ∣ v is L ⇒ code "0"
    ∣ v is ‘1’ ⇒ code "1"
    ∣ v is H ⇒ code "1"
    ∣ v is Z ⇒ code "z"
    ∣ code "x"

-- a value as it is written: "integers are 32-bit two's complement, in the standard's shortest binary form, as `b101 !`"
unfoldable pub written_of : ℕ → ℕ → Word
written_of ty v = ty is integer ⇒ (word_of "b" ++ binary_of v) ∣ (character_of v ∷ [])

-- "Signal n has the identifier with character code 33 + n."
abbrev pub identifier_of : ℕ → Word
identifier_of n = (33 + n) ∷ []

-- the line of a value: a vector has a space before the identifier, a scalar none
unfoldable pub value_line : ℕ → ℕ → ℕ → Line
value_line ty v n =
    ty is integer ⇒ (written_of ty v ∷ identifier_of n ∷ [])
    ∣ ((written_of ty v ++ identifier_of n) ∷ [])

-- `#` and the time
unfoldable pub time_line : ℕ → Line
time_line t = (word_of "#" ++ decimal_of t) ∷ []

-- type of signal n, its value in a row, and row k; what stands for one that is not there does not matter
abbrev pub type_in : List ℕ → ℕ → ℕ
type_in types n = get_or types n 1

abbrev pub value_in : Row → ℕ → ℕ
value_in r n = get_or r.values n 0

abbrev pub row_in : List Row → ℕ → Row
row_in rows k = get_or rows k (record { time = 0; values = [] })

-- the lines of the signals that are shown, "signals by number"
unfoldable pub shown_lines : List ℕ → (ℕ → Bool) → Row → List Line
shown_lines types shown r = join_below (λ n. shown n ⇒ (value_line (type_in types n) (value_in r n) n ∷ []) ∣ []) (length types)

-- the written value of signal n differs
unfoldable pub differs : List ℕ → Row → Row → ℕ → Bool
differs types before r n = not (same_word (written_of (type_in types n) (value_in before n)) (written_of (type_in types n) (value_in r n)))

-- "at each later time, those whose written value differs [..]; such a time with none is left out": from what the row before has, which
-- is what was written last (`ReadBack`)
unfoldable pub later_lines : List ℕ → Row → Row → List Line
later_lines types before r =
    any_below (differs types before r) (length types) ⇒ (time_line r.time ∷ shown_lines types (differs types before r) r)
    ∣ []

-- the lines of row k: "The dump holds the settled values at time 0", all of them, "and, at each later time," those that differ
unfoldable pub row_lines : List ℕ → List Row → ℕ → List Line
row_lines types rows zero = time_line (row_in rows 0).time ∷ shown_lines types (λ n. true) (row_in rows 0)
row_lines types rows (suc k) = later_lines types (row_in rows k) (row_in rows (suc k))

-- "width 1 for logic"
abbrev pub width_of : ℕ → ℕ
width_of ty = ty is integer ⇒ 32 ∣ 1

-- "per signal one like `$var wire 32 ! s0 $end`": `s` and the number
unfoldable pub declared : ℕ → ℕ → Line
declared ty n = var ∷ word_of "wire" ∷ decimal_of (width_of ty) ∷ identifier_of n ∷ (word_of "s" ++ decimal_of n) ∷ end ∷ []

abbrev pub var_line : List ℕ → ℕ → Line
var_line types n = declared (type_in types n) n

-- "The header lines are `$timescale 1 ns $end`, `$scope module model $end`, per signal one [..], `$upscope $end` and
-- `$enddefinitions $end`"
abbrev pub opening : List Line
opening =
    (word_of "$timescale" ∷ word_of "1" ∷ word_of "ns" ∷ end ∷ [])
    ∷ (word_of "$scope" ∷ word_of "module" ∷ word_of "model" ∷ end ∷ [])
    ∷ []

abbrev pub closing : List Line
closing = (word_of "$upscope" ∷ end ∷ []) ∷ (enddefinitions ∷ end ∷ []) ∷ []

unfoldable pub header_lines : List ℕ → List Line
header_lines types = opening ++ (list_below (var_line types) (length types) ++ closing)

-- "after them each time and each value has its own line, without $dumpvars"
unfoldable pub dump_lines : List ℕ → List Row → List Line
dump_lines types rows = header_lines types ++ join_below (row_lines types rows) (length rows)

unfoldable pub dump_text : List ℕ → List Row → List ℕ
dump_text types rows = text_of (dump_lines types rows)
