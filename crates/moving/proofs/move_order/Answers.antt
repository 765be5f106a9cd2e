-- Each way by its law. Assumes nothing.
use Rattle.session.specs.Lists.{order_of}
use Rattle.moving.proofs.MoveLaws.{moved_delta, moved_time, moved_new, moved_other}
use Rattle.moving.proofs.move_order.Goals as goal

pub returns-then-answer-eq22 : goal.returns-then-answer-eq22
unfolding order_of
returns-then-answer-eq22 c = moved_time _ _ _ _ _ _ c.if-kind-eq2.true _ _ c.play-delta.ensures.played_to c.if-answer-eq22.true c.play-time.ensures.played_to c.play-time.ensures.valid_2

pub returns-then-kind-eq2 : goal.returns-then-kind-eq2
unfolding order_of
returns-then-kind-eq2 c = moved_delta _ _ _ _ _ _ c.if-kind-eq2.true _ c.play-delta.ensures.played_to c.play-delta.ensures.valid_2 c.if-answer-eq22.false

pub returns-then-kind : goal.returns-then-kind
unfolding order_of
returns-then-kind c = moved_new _ _ _ _ _ _ c.if-kind.true c.requires

pub returns : goal.returns
unfolding order_of
returns c = moved_other _ _ _ _ _ _ c.if-kind-eq2.false c.if-kind.false _ c.play-next.ensures.played_to c.play-next.ensures.valid_2
