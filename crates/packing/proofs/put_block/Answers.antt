use mathlib.Core.Path.{refl}
use native.Mathlib.Nat.{le_antisymm}
use native.Mathlib.Omega.{arith}
use lib.ListN.{length-set}
use borrow.Author.Rules.{rules}
use Rattle.packing.proofs.BlockLaws.{begun, begun_next, block_put}
use Rattle.packing.proofs.put_block.Goals as goal

pub loop-i-init : goal.loop-i-init
loop-i-init c = (begun _ _, search rules)

pub loop-i-preserved : goal.loop-i-preserved
loop-i-preserved c =
    let inv = c.loop-i.invariant in
    (rw c.block_byte.ensures.0 (begun_next _ _ _ _ (omega (arith, c.loop-i-test.true, c.requires.out_len)) inv.0), rw length-set inv.1)

pub returns : goal.returns
returns c = block_put _ _ c.args.out.now c.loop-i.out c.words.result _ c.requires.out_len (rw (le_antisymm c.loop-i.auto.i-end c.loop-i-test.false) at c.loop-i.invariant.0) c.words.ensures refl refl refl
