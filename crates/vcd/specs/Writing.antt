-- The rows that the arrays hold, what is written of them, and how long each part can be.
use Rattle.std.specs.Prelude.{Bool, true, ◌||◌, List, ◌∷◌, ℕ, ◌+◌, ◌*◌, get_or}
use Rattle.base.specs.Below.{list_below}
use Rattle.base.specs.Cases.{◌∣◌, ◌⇒◌}
use Rattle.vcd.specs.Lines.{Line}
use Rattle.vcd.specs.Vcd.{Row, time_line, shown_lines, differs, later_lines}

-- the most bytes of a value's line, of a time's, of a row's, of the line that declares a signal, and of the header of 32 signals
abbrev pub value_most : ℕ
value_most = 36

abbrev pub time_most : ℕ
time_most = 22

abbrev pub row_most : ℕ
row_most = time_most + 32 * value_most

abbrev pub var_most : ℕ
var_most = 24

abbrev pub header_most : ℕ
header_most = 81 + 32 * var_most

-- the first n entries of an array
abbrev pub front_of : ℕ → List ℕ → List ℕ
front_of n xs = list_below (λ i. get_or xs i 0) n

-- a row of n signals
abbrev pub row_with : ℕ → ℕ → List ℕ → Row
row_with time n xs = record { time = time; values = front_of n xs }

-- what is shown of a row: all of the first one, of a later one what differs
abbrev pub shown_by : Bool → List ℕ → Row → Row → ℕ → Bool
shown_by first types before r s = first || differs types before r s

abbrev pub lines_by : Bool → List ℕ → Row → Row → List Line
lines_by first types before r =
    first ⇒ (time_line r.time ∷ shown_lines types (λ s. true) r) ∣ later_lines types before r

-- row k of n signals: its time, and entries 32 * k to 32 * k + n - 1
abbrev pub row_of : ℕ → List ℕ → List ℕ → ℕ → Row
row_of n times values k = record { time = get_or times k 0; values = list_below (λ s. get_or values (32 * k + s) 0) n }

abbrev pub rows_of : ℕ → List ℕ → List ℕ → ℕ → List Row
rows_of n times values count = list_below (row_of n times values) count
