use mathlib.Core.Path.{refl}
use Prim.Native.Nat.{◌+◌, ◌*◌}
use native.Mathlib.Omega.{arith}
use Rattle.moving.proofs.MoveLaws.{moving_next, moving_all}
use Rattle.moving.proofs.move_each.Goals as goal

pub loop-i-preserved : goal.loop-i-preserved
loop-i-preserved c =
    let from = 4 * c.loop-i.i in
    moving_next c.loop-i.invariant c.loop-i-test.true refl refl refl refl (omega (arith, c.type_inv.orders (from + 2))) (omega (arith, c.type_inv.orders (from + 3))) c.move_order-r.ensures c.copy_from_slice.ensures.after

pub returns : goal.returns
returns c = moving_all c.loop-i.invariant c.loop-i-test.false
