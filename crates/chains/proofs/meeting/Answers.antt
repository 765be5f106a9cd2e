use borrow.Author.Rules.{rules}
use Rattle.chains.proofs.Rounds.{none_passed, one_passed, all_passed}
use Rattle.chains.proofs.meeting.Goals as goal

pub loop-v-init : goal.loop-v-init
loop-v-init c = (search rules, none_passed _)

pub loop-v-preserved : goal.loop-v-preserved
loop-v-preserved c = (search rules, one_passed _ _ _ _ _ c.loop-v.invariant.1 c.meet.ensures c.with-out.ensures)

pub returns : goal.returns
returns c = all_passed _ _ _ _ _ c.loop-v.invariant.0 c.loop-v-test.false c.loop-v.invariant.1
