-- `shift`: the histories passed are shifted, those after them stand. Assumes nothing.
use mathlib.Core.Path.{◌≡◌}
use lib.ListN.{length}
use Rattle.steps.specs.Shift.{ShiftedBy}
use Rattle.steps.proofs.time.shift.Given as goal

abbrev pub invariant-loop-s : goal.invariant-loop-s
invariant-loop-s l = (length l.signals ≡ 1056) × ShiftedBy l.initial.signals l.n l.s l.signals
