-- The loop puts the line of each answer. Assumes nothing.
use Prim.Native.Nat.{◌/◌}
use lib.ListN.{length}
use Rattle.numerals.proofs.PutLaws.{Putting}
use Rattle.text.specs.Text.{line_most}
use Rattle.text.proofs.PrintLaws.{line_at}
use Rattle.text.proofs.put_lines.Given as goal

abbrev pub invariant-loop-i : goal.invariant-loop-i
invariant-loop-i l = Putting (line_at l.orders l.answers) (length l.answers / 16) line_most l.initial.out 0 l.out l.at l.i
