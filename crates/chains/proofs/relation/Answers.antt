use borrow.Author.Rules.{rules}
use Rattle.chains.proofs.RowsMade.{rows_none, rows_next, rows_all}
use Rattle.chains.proofs.relation.Goals as goal

pub loop-a-init : goal.loop-a-init
loop-a-init c = rows_none _ _ _ (search rules)

pub loop-a-preserved : goal.loop-a-preserved
loop-a-preserved c = rows_next _ _ _ (search rules) _ _ _ (search rules) c.loop-a.invariant c.meeting.ensures

pub returns : goal.returns
returns c = rows_all _ _ _ (search rules) _ _ c.loop-a-test.false c.loop-a.invariant
