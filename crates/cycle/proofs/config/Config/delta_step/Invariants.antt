-- `delta_step`: what is due and the standings decide. The loop takes the due transactions of the drivers passed, and `delta_answers`
-- puts the parts together. Assumes nothing.
use Prim.Native.Nat.{◌≤◌}
use Rattle.cycle.proofs.DeltaDrivers.{Taking}
use Rattle.cycle.proofs.config.Config.delta_step.Given as goal

abbrev pub invariant-loop-k : goal.invariant-loop-k
invariant-loop-k l = (l.ndrivers ≤ 64) × Taking l.initial.self l.k l.self
