use mathlib.Core.Path.{sym, ◌∙◌}
use Rattle.members.proofs.MemberLaws.{looked_none, looked_past, looked_unknown, looked_ready, looked_unready, looked_all}
use Rattle.members.proofs.set_refusal.Goals as goal
use Rattle.members.proofs.set_refusal.Goals.{then-has+else-p-nprocesses+then-standings-p-ne-READY, then-has+else-p-nprocesses+else-standings-p-ne-READY, else-has}

pub loop-p-init : goal.loop-p-init
loop-p-init c = looked_none _ _ _

pub returns-then-p-nprocesses : goal.returns-then-p-nprocesses
returns-then-p-nprocesses c = looked_unknown _ _ _ c.loop-p.invariant c.loop-p-test.true (sym c.has.ensures ∙ c.if-has.true) c.if-p-nprocesses.true

pub loop-p-preserved : goal.loop-p-preserved
loop-p-preserved c =
    let inv = c.loop-p.invariant in
    let here = c.loop-p-test.true in
    elim c.if-has.branch [
      | then-has+else-p-nprocesses+then-standings-p-ne-READY w ↦
          rw w.refusal-is (looked_unready _ _ _ inv here (sym c.has.ensures ∙ w.if-has.true) w.if-p-nprocesses.false w.if-standings-p-ne-READY.true)
      | then-has+else-p-nprocesses+else-standings-p-ne-READY w ↦
          rw w.refusal-is (looked_ready _ _ _ inv here (sym c.has.ensures ∙ w.if-has.true) w.if-p-nprocesses.false w.if-standings-p-ne-READY.false)
      | else-has w ↦ rw w.refusal-is (looked_past _ _ _ inv here (sym c.has.ensures ∙ w.if-has.false))
    ]

pub returns : goal.returns
returns c = looked_all _ _ _ c.loop-p.invariant c.loop-p.auto.p-end c.loop-p-test.false
