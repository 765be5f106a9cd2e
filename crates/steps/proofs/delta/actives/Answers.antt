-- `actives`: the loop's steps. Assumes nothing.
use mathlib.Core.Path.{ap}
use borrow.Author.Rules.{rules}
use Rattle.blocks.specs.declared.records.DriverRecord.{DriverRecord}
use Rattle.steps.proofs.DeltaSignals.{active_none, active_more, active_same, active_all, signal_below}
use Rattle.steps.proofs.delta.actives.Goals as goal
use Rattle.steps.proofs.delta.actives.Goals.{then-due-k, else-due-k}

pub loop-k-init : goal.loop-k-init
loop-k-init c = active_none _ _ _

pub with-active-requires : goal.with-active-requires
with-active-requires c = signal_below _ c.args.program.now.runs.facts _ _ (search rules) c.driver-d.ensures

pub loop-k-preserved : goal.loop-k-preserved
loop-k-preserved c =
    elim c.if-due-k.branch [
      | then-due-k w ↦ rw w.active-is (active_more _ _ _ _ _ _ _ (ap (λ (d : DriverRecord). d.signal) w.driver-d.ensures) w.if-due-k.true w.with-active.ensures c.loop-k.invariant)
      | else-due-k w ↦ rw w.active-is (active_same _ _ _ _ _ w.if-due-k.false c.loop-k.invariant)
    ]

pub returns : goal.returns
returns c = active_all _ _ _ _ _ _ c.loop-k.auto.k-end c.loop-k-test.false c.loop-k.invariant
