use Rattle.tokens.proofs.Runs.{base_again, base_exceeds, base_over}
use Rattle.tokens.proofs.in_base.Goals as goal

pub returns-then-most-v : goal.returns-then-most-v
returns-then-most-v c = base_exceeds _ _ c.loop-b-test.true _ _ _ _ _ (cc) c.loop-b.invariant.1 _ c.requires.0 c.if-most-v.true

pub loop-b-preserved : goal.loop-b-preserved
loop-b-preserved c = (c.if-most-v.false, base_again _ _ c.loop-b-test.true _ _ _ _ _ (cc) c.loop-b.invariant.1)

pub returns : goal.returns
returns c = base_over _ _ _ _ _ _ _ c.loop-b-test.false c.loop-b.invariant.0 c.loop-b.invariant.1
