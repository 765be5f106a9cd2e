use mathlib.Core.Path.{refl}
use native.Mathlib.Nat.{le_antisymm}
use native.Mathlib.Omega.{arith}
use lib.ListN.{length-set}
use Rattle.base.proofs.Below.{list_none}
use Rattle.blocks.specs.Blocks.{start_at}
use Rattle.blocks.proofs.Places.{placed_none, placed_next}
use Rattle.blocks.proofs.blocks.put_starts.Goals as goal

pub loop-j-init : goal.loop-j-init
loop-j-init c = (rw (list_none, placed_none), refl)

pub loop-j-preserved : goal.loop-j-preserved
loop-j-preserved c = let inv = c.loop-j.invariant in (rw inv.0 (placed_next (start_at _) _ _ _ (omega arith)), simp length-set inv.1)

pub returns : goal.returns
returns c = rw (le_antisymm c.loop-j.auto.j-end c.loop-j-test.false) at c.loop-j.invariant.0
