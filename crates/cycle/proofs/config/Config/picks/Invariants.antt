-- The loop keeps `Turning`, and each arm makes a `Turn`; `Picks-done` tells what the loop left. The measure is what is left of the
-- picks and of the processes. Assumes nothing.
use Prim.Native.Nat.{◌+◌, ◌-◌}
use Rattle.expressions.specs.Lent.{model_of_program}
use Rattle.cycle.proofs.Turning.{Turning}
use Rattle.cycle.proofs.config.Config.picks.Given as goal

abbrev pub invariant-loop-n : goal.invariant-loop-n
invariant-loop-n l = Turning (model_of_program l.program) l.set l.stride l.count l.now l.initial.at l.initial.self l.at l.n l.self

abbrev pub decreases-loop-n : goal.decreases-loop-n
decreases-loop-n l = (l.count - l.n) + (l.nprocesses - l.at)
