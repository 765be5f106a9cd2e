-- `woken_if` is `woken_for`. Assumes nothing.
use Rattle.steps.proofs.DeltaProcesses.{for_absent, for_value}
use Rattle.steps.proofs.delta.woken_if.Goals as goal

pub returns-then-b-eq-ABSENT : goal.returns-then-b-eq-ABSENT
returns-then-b-eq-ABSENT c = for_absent _ _ _ _ _ _ c.if-b-eq-ABSENT.true c.woken.ensures

pub returns : goal.returns
returns c = for_value _ _ _ _ _ _ _ c.if-b-eq-ABSENT.false c.eval-v.ensures c.woken_by.ensures
