-- `shift`: the loop's steps. Assumes nothing.
use mathlib.Core.Path.{◌≡◌, ◌∙◌}
use Prim.Native.Nat.{min}
use native.Mathlib.Omega.{arith}
use Rattle.steps.proofs.Shifts.{shift_none, shift_turn, shift_all}
use Rattle.steps.proofs.time.shift.Goals as goal

pub loop-s-init : goal.loop-s-init
loop-s-init c = (c.requires.signals_len, shift_none _ _)

pub loop-s-preserved : goal.loop-s-preserved
loop-s-preserved c =
    let k : c.min-k.result ≡ min 31 c.args.n = omega (arith, c.min-k.ensures) in
    (c.fill_recent.ensures.long ∙ c.move_past.ensures.long ∙ c.loop-s.invariant.0, shift_turn _ _ _ _ _ _ _ k c.move_past.ensures c.fill_recent.ensures c.loop-s.invariant.1)

pub returns : goal.returns
returns c = shift_all _ _ _ _ _ c.loop-s.auto.s-end c.loop-s-test.false c.loop-s.invariant.1
