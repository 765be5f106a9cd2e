-- The loop puts a space and a number for each process. Assumes nothing.
use mathlib.Core.List.{◌∷◌}
use lib.ListN.{length, get_or}
use Rattle.numerals.specs.Numerals.{decimal_of, space}
use Rattle.numerals.proofs.PutLaws.{Putting}
use Rattle.loop_text.specs.LoopText.{process_most}
use Rattle.loop_text.proofs.put_processes.Given as goal

abbrev pub invariant-loop-process : goal.invariant-loop-process
invariant-loop-process l = Putting (λ j. space ∷ decimal_of (get_or l.chain j 0)) (length l.chain) process_most l.initial.out l.at l.out l.end l.process-index
