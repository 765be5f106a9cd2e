-- The loop puts a line for each signal. Assumes nothing.
use lib.ListN.{length}
use Rattle.vcd.specs.Vcd.{var_line}
use Rattle.vcd.specs.Writing.{var_most}
use Rattle.numerals.proofs.PutLaws.{Putting}
use Rattle.vcd.specs.Lines.{spaced}
use Rattle.vcd.proofs.put_vars.Given as goal

abbrev pub invariant-loop-s : goal.invariant-loop-s
invariant-loop-s l = Putting (λ i. spaced (var_line l.types i)) (length l.types) var_most l.initial.out l.at l.out l.end l.s
