use borrow.Author.Rules.{rules}
use Rattle.chains.proofs.Rounds.{no_edge, one_edge, all_edges}
use Rattle.chains.proofs.back.Goals as goal

pub loop-init : goal.loop-init
loop-init c = no_edge _ _ _ _ (search rules) c.with-set.ensures

pub loop-preserved : goal.loop-preserved
loop-preserved c = one_edge _ _ _ _ _ _ (search rules) c.loop.invariant c.meeting-set.ensures

pub returns : goal.returns
returns c = all_edges _ _ _ _ _ _ (search rules) (search rules) c.loop.invariant
