-- `earliest`: the loop has the least of the times passed; one that is `time` is the least of all. Assumes nothing.
use mathlib.Core.Path.{◌≡◌}
use Rattle.due.specs.Due.{soonest_of}
use Rattle.due.proofs.earliest.Given as goal

abbrev pub invariant-loop-x : goal.invariant-loop-x
invariant-loop-x l = l.t ≡ soonest_of l.times l.x-index
