-- The loop keeps `Playing`; what the order gave goes on to the next order by `playing_next`.  Assumes
-- nothing.
use Rattle.expressions.specs.Lent.{model_of_program}
use Rattle.cycle.specs.View.{view_of}
use Rattle.session.proofs.PlayLaws.{Playing}
use Rattle.session.proofs.play.play.Given as goal

abbrev pub invariant-loop-i : goal.invariant-loop-i
invariant-loop-i l = Playing (model_of_program l.program) l.orders (view_of l.initial.at) l.i l.at l.answers
