-- The inverter's dump, line by line, and what is read back of it.
use Rattle.std.specs.Prelude.{◌≡◌, List, [], ◌∷◌, map, ℕ}
use Prim.Native.String.{String}
use Rattle.values.specs.Nine.{‘0’, ‘1’}
use Rattle.vcd.specs.Lines.{word_of}
use Rattle.vcd.specs.Reader.{value_at}
use Rattle.vcd.specs.Vcd.{Row}
use Rattle.dumps.specs.Dumps.{dump_of}
use Rattle.dumps.specs.Run.{run_of, row_at}
use Rattle.cases.specs.Inverter.{inverter, inverter_bytes, inverter_order_bytes, printed}

unfoldable pub inverter_dump : List String
inverter_dump =
    "$timescale 1 ns $end"
    ∷ "$scope module model $end"
    ∷ "$var wire 1 ! s0 $end"
    ∷ "$var wire 1 \" s1 $end"
    ∷ "$upscope $end"
    ∷ "$enddefinitions $end"
    ∷ "#0"
    ∷ "0!"
    ∷ "1\""
    ∷ "#1"
    ∷ "1!"
    ∷ "0\""
    ∷ []

abbrev pub row : ℕ → ℕ → ℕ → Row
row time i o = record { time = time; values = i ∷ o ∷ [] }

pub record InverterDumped : Type 0 where
  -- i and o, settled at the two times of the run
  pub settled : map (row_at inverter) (run_of inverter_bytes inverter_order_bytes) ≡ row 0 ‘0’ ‘1’ ∷ row 1 ‘1’ ‘0’ ∷ []
  pub dump : dump_of inverter_bytes inverter_order_bytes ≡ printed inverter_dump
  -- o at time 1: by the reader on those lines, and by the theorem
  pub read : value_at (printed inverter_dump) (word_of "\"") 1 ≡ word_of "0"
  pub back : value_at (dump_of inverter_bytes inverter_order_bytes) (word_of "\"") 1 ≡ word_of "0"
