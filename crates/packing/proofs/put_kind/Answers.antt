use mathlib.Core.Path.{refl}
use Prim.Native.Nat.{◌*◌}
use native.Mathlib.Nat.{le_antisymm}
use native.Mathlib.Omega.{arith}
use Rattle.packing.specs.Packed.{pages_of}
use Rattle.packing.proofs.PageLaws.{page_part, put_none, put_next}
use Rattle.packing.proofs.put_kind.Goals as goal

pub loop-j-init : goal.loop-j-init
loop-j-init c = (put_none _ _ _ _, refl)

pub loop-j-preserved : goal.loop-j-preserved
loop-j-preserved c =
    let inv = c.loop-j.invariant in
    let n = c.loop-j-test.true in
    put_next _ _ _ _ _ _ _ _ inv.0 inv.1 (omega (arith, n, c.requires)) (page_part c.args.r.now (504 * c.loop-j.j) c.min-end.result (omega (arith, c.min-end.ensures)) (omega (arith, n))) c.put_block.ensures

pub returns-clause-out_after : goal.returns-clause-out_after
unfolding pages_of
returns-clause-out_after c = rw (le_antisymm c.loop-j.auto.j-end c.loop-j-test.false) at c.loop-j.invariant.0
