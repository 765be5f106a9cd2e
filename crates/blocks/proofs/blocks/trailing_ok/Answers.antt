use native.Mathlib.Nat.{le_antisymm}
use Rattle.base.proofs.Turns.{all_begun, all_turn}
use Rattle.blocks.specs.Blocks.{trailing_ok}
use Rattle.blocks.proofs.BlockForms.{trailing_form}
use Rattle.blocks.proofs.blocks.trailing_ok.Goals as goal

pub loop-i-init : goal.loop-i-init
loop-i-init c = all_begun _

pub loop-i-preserved : goal.loop-i-preserved
loop-i-preserved c = all_turn _ _ _ _ c.loop-i.invariant (trailing_form _ _ _ _ _ c.byte.ensures c.byte-in-loop-i.ensures)

pub returns : goal.returns
unfolding trailing_ok
returns c = rw (le_antisymm c.loop-i.auto.i-end c.loop-i-test.false) at c.loop-i.invariant
