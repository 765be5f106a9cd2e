use native.Mathlib.Omega.{arith}
use mathlib.Core.Path.{◌∙◌}
use Rattle.text_model.proofs.StoreLaws.{stored_next, stored_past}
use Rattle.text_model.proofs.store.Goals as goal
use Rattle.text_model.proofs.store.Goals.{then-i-out, else-i-out}

pub loop-i-preserved : goal.loop-i-preserved
loop-i-preserved c =
    let v = c.loop-i.invariant in
    let l = c.loop-i-test.true in
    elim c.if-i-out.branch [
      | then-i-out w ↦ w.out-is ∙ stored_next c.args.bytes.now c.args.out.now c.loop-i.i l v
      | else-i-out w ↦ w.out-is ∙ stored_past c.args.bytes.now c.args.out.now c.loop-i.i l v w.if-i-out.false
    ]
