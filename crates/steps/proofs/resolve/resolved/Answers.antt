use mathlib.Core.Path.{ap}
use borrow.Author.Rules.{rules}
use native.Mathlib.Omega.{arith}
use Prim.Native.Nat.{◌≤◌, ◌<◌}
use lib.ListN.{length}
use Rattle.blocks.specs.declared.records.DriverRecord.{DriverRecord}
use Rattle.steps.proofs.Resolving.{gathered_none, gathered_more, gathered_same, gathered_all, none_drives, some_drive}
use Rattle.steps.proofs.resolve.resolved.Goals as goal
use Rattle.steps.proofs.resolve.resolved.Goals.{then-d-s, else-d-s}

pub loop-k-init : goal.loop-k-init
loop-k-init c = gathered_none _ _ _ _ (search rules)

pub loop-k-preserved : goal.loop-k-preserved
loop-k-preserved c =
    let d = ap (λ (d : DriverRecord). d.signal) c.driver-d.ensures in
    let h : c.loop-k.k < 64 = omega (arith, c.requires, c.args.program.now.runs.facts.totals.drivers, c.loop-k-test.true) in
    elim c.if-d-s.branch [
      | then-d-s w ↦ rw (w.driving-is, w.n-is) (gathered_more _ _ _ c.loop-k.k _ _ h _ d c.loop-k.invariant w.if-d-s.true)
      | else-d-s w ↦ rw (w.driving-is, w.n-is) (gathered_same _ _ _ c.loop-k.k _ _ h _ d c.loop-k.invariant w.if-d-s.false)
    ]

pub returns-then-n-eq0 : goal.returns-then-n-eq0
returns-then-n-eq0 c = none_drives _ _ _ c.loop-k.driving _ c.if-n-eq0.true (gathered_all _ _ _ _ _ _ _ c.loop-k.auto.k-end c.loop-k-test.false c.loop-k.invariant)

-- the array has so many values
few : (c : goal.After-resolve_by) → c.loop-k.n ≤ length c.loop-k.driving
few c =
    rw c.loop-k.invariant.room (omega (arith, c.requires, c.args.program.now.runs.facts.totals.drivers, c.loop-k.auto.k-end, c.loop-k.invariant.most))

pub returns : goal.returns
returns c =
    some_drive _ _ _ _ _ c.loop-k.driving _ c.if-n-eq0.false (few c) c.args.program.now.runs.usable.table.table c.resolve_by.ensures
    (gathered_all _ _ _ _ _ _ _ c.loop-k.auto.k-end c.loop-k-test.false c.loop-k.invariant)
