-- The loop keeps `Tracing`: the rows of the times that are left. Assumes nothing.
use Rattle.expressions.specs.Lent.{model_of_program}
use Rattle.cycle.specs.View.{view_of}
use Rattle.dumps.proofs.TraceLaws.{Tracing}
use Rattle.dumps.proofs.trace.Given as goal

abbrev pub invariant-loop-i : goal.invariant-loop-i
invariant-loop-i l = Tracing (model_of_program l.program) l.orders (view_of l.initial.at) l.i l.at l.k l.times l.values
