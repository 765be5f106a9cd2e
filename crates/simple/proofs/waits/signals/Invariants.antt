-- The loop keeps the signals read so far (proofs/SignalLaws).
-- Assumes nothing.
use Prim.Native.Nat.{◌-◌, ◌≤◌}
use lib.ListN.{length}
use Rattle.simple.proofs.SignalLaws.{Collects}
use Rattle.simple.proofs.waits.signals.Given as goal

abbrev pub invariant-loop-n : goal.invariant-loop-n
invariant-loop-n l = (l.at ≤ l.i) × (l.i ≤ length l.text) × Collects l.text l.at l.i l.set

abbrev pub decreases-loop-n : goal.decreases-loop-n
decreases-loop-n l = length l.text - l.i
