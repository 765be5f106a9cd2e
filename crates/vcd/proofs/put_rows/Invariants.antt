-- The loop puts the lines of each row. Assumes nothing.
use lib.ListN.{length}
use Rattle.vcd.specs.Vcd.{row_lines}
use Rattle.vcd.specs.Writing.{row_most, rows_of}
use Rattle.numerals.proofs.PutLaws.{Putting}
use Rattle.vcd.specs.Lines.{text_of}
use Rattle.vcd.proofs.put_rows.Given as goal

abbrev pub invariant-loop-k : goal.invariant-loop-k
invariant-loop-k l =
    Putting (λ i. text_of (row_lines l.types (rows_of (length l.types) l.times l.values (length l.times)) i)) (length l.times) row_most l.initial.out l.at l.out l.end l.k
