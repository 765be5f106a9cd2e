-- The loop puts a line for each signal that is shown. Assumes nothing.
use lib.ListN.{length}
use Rattle.vcd.specs.Writing.{value_most}
use Rattle.numerals.proofs.PutLaws.{Putting}
use Rattle.vcd.specs.Lines.{text_of}
use Rattle.vcd.proofs.WalkLaws.{shown_at}
use Rattle.vcd.proofs.put_shown.Given as goal

abbrev pub invariant-loop-s : goal.invariant-loop-s
invariant-loop-s l = Putting (λ i. text_of (shown_at l.all l.types (length l.types) l.before l.row i)) (length l.types) value_most l.initial.out l.at l.out l.end l.s
