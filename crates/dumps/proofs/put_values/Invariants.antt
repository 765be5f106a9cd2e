-- The loop fills the row from the front. Assumes nothing.
use Prim.Native.Nat.{◌≤◌}
use Rattle.cycle.proofs.Arrays.{Filled}
use Rattle.dumps.specs.Run.{current_at}
use Rattle.dumps.proofs.put_values.Given as goal

abbrev pub invariant-loop-s : goal.invariant-loop-s
invariant-loop-s l = (l.s ≤ l.n) × Filled (current_at l.signals) 32 l.s l.row
