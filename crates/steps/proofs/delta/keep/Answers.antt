-- `keep`: the loop's steps. Assumes nothing.
use borrow.Author.Rules.{rules}
use Rattle.steps.proofs.DeltaSignals.{kept_none, kept_more, kept_all}
use Rattle.steps.proofs.delta.keep.Goals as goal

pub loop-s-init : goal.loop-s-init
loop-s-init c = kept_none _

pub loop-s-preserved : goal.loop-s-preserved
loop-s-preserved c = kept_more _ _ _ (search rules) c.requires.signals_len c.loop-s.invariant

pub returns : goal.returns
returns c = kept_all _ _ _ _ c.loop-s.auto.s-end c.loop-s-test.false c.loop-s.invariant
