-- The loop fills the types from the front. Assumes nothing.
use Prim.Native.Nat.{◌≤◌}
use Rattle.expressions.specs.Lent.{model_of_program}
use Rattle.cycle.proofs.Arrays.{Filled}
use Rattle.dumps.specs.Run.{signal_type}
use Rattle.dumps.proofs.signal_types.Given as goal

abbrev pub invariant-loop-i : goal.invariant-loop-i
invariant-loop-i l = (l.i ≤ l.program.records.totals.signals) × Filled (signal_type (model_of_program l.program)) 32 l.i l.r
