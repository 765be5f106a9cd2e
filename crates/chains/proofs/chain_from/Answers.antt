use borrow.Author.Rules.{rules}
use Rattle.chains.proofs.Rounds.{made_none, made_next, made_all}
use Rattle.chains.proofs.chain_from.Goals as goal

pub loop-i-init : goal.loop-i-init
loop-i-init c = made_none _ _ _ _ c.requires

pub loop-i-preserved : goal.loop-i-preserved
loop-i-preserved c = made_next _ _ _ _ c.requires _ _ _ _ _ (search rules) c.loop-i.invariant c.back.ensures c.lowest-v.ensures

pub returns : goal.returns
returns c = made_all _ _ _ _ c.requires _ _ _ c.loop-i-test.false c.loop-i.invariant
