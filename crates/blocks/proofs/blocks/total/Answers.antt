use Rattle.std.proofs.Common.{sym, ap, ◌∙◌, rules}
use Prim.Native.Nat.{zero-le}
use native.Mathlib.Nat.{le_antisymm}
use Rattle.base.specs.Below.{sum_below}
use Rattle.base.proofs.Below.{sum_none}
use Rattle.base.proofs.Turns.{sum_turn}
use Rattle.blocks.specs.Blocks.{total_of}
use Rattle.blocks.proofs.blocks.total.Goals as goal

pub loop-b-init : goal.loop-b-init
loop-b-init c = (zero-le, sym (sum_none _))

pub loop-b-preserved : goal.loop-b-preserved
loop-b-preserved c = (search rules, sum_turn _ _ _ _ c.loop-b.invariant.1 c.count_in-n.ensures.value)

pub returns : goal.returns
unfolding total_of
returns c = c.loop-b.invariant.1 ∙ ap (sum_below _) (le_antisymm c.loop-b.auto.b-end c.loop-b-test.false)
