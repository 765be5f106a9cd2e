-- The loop keeps `Moving`. Assumes nothing.
use Rattle.expressions.specs.Lent.{model_of_program}
use Rattle.cycle.specs.View.{view_of}
use Rattle.moving.proofs.MoveLaws.{Moving}
use Rattle.moving.proofs.move_each.Given as goal

abbrev pub invariant-loop-i : goal.invariant-loop-i
invariant-loop-i l = Moving (model_of_program l.program) l.orders (view_of l.initial.at) l.i l.at l.moved
