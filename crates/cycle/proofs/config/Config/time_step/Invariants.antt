-- `time_step`: what is due and the standings decide. The units passed elapse for the drivers passed, and `time_stepped_lem` puts the parts
-- together. Assumes nothing.
use Prim.Native.Nat.{◌≤◌}
use Rattle.cycle.proofs.TimeView.{Elapsing}
use Rattle.cycle.proofs.config.Config.time_step.Given as goal

abbrev pub invariant-loop-k : goal.invariant-loop-k
invariant-loop-k l = (l.ndrivers ≤ 64) × Elapsing l.initial.self l.passed l.k l.self
