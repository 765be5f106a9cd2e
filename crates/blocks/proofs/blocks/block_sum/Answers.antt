use Rattle.std.proofs.Common.{sym, rules}
use Prim.Native.Nat.{zero-le}
use native.Mathlib.Nat.{le_antisymm}
use Rattle.base.proofs.Below.{sum_none}
use Rattle.base.proofs.Turns.{sum_turn}
use Rattle.blocks.specs.Blocks.{block_sum}
use Rattle.blocks.proofs.blocks.block_sum.Goals as goal

pub loop-i-init : goal.loop-i-init
loop-i-init c = (zero-le, sym (sum_none _))

pub loop-i-preserved : goal.loop-i-preserved
loop-i-preserved c = (search rules, sum_turn _ _ _ _ c.loop-i.invariant.1 c.word-sum.ensures.value)

pub returns : goal.returns
unfolding block_sum
returns c = rw (le_antisymm c.loop-i.auto.i-end c.loop-i-test.false) at c.loop-i.invariant.1
