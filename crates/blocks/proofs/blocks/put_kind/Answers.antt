use mathlib.Core.Path.{refl, ◌∙◌}
use Prim.Native.Nat.{◌+◌, ◌/◌, ◌≤◌, ◌<◌}
use native.Mathlib.Nat.{le_antisymm}
use native.Mathlib.Omega.{arith}
use lib.ListN.{length}
use borrow.Author.Rules.{rules}
use Rattle.base.proofs.Below.{sum_none, sum_more, join_none}
use Rattle.blocks.specs.Blocks.{starts_of}
use Rattle.blocks.proofs.Starts.{total_upto, placed_block}
use Rattle.blocks.proofs.Places.{placed_none}
use Rattle.blocks.proofs.blocks.put_kind.Goals as goal

pub loop-b-init : goal.loop-b-init
loop-b-init c = (rw sum_none (omega arith), rw (join_none, placed_none), refl)

-- the block's starts fit behind those that are there
room : (c : goal.After-put_starts-arg-1) → c.loop-b.n + c.count_in-count.result ≤ length c.loop-b.out
room c =
    let t : c.loop-b.b < length c.args.m.now / 512 = omega arith in
    omega (arith, total_upto c.args.m.now c.args.kind c.loop-b.b t, c.count_in-count.ensures.value)

pub put_starts-requires : goal.put_starts-requires
put_starts-requires c = (search rules, search rules, omega (arith, room c))

-- the block's starts fit behind those that are there
room_2 : (c : goal.After-slice_known-in-loop-b-1) → c.loop-b.n + c.count_in-count.result ≤ length c.loop-b.out
room_2 c =
    let t : c.loop-b.b < length c.args.m.now / 512 = omega arith in
    omega (arith, total_upto c.args.m.now c.args.kind c.loop-b.b t, c.count_in-count.ensures.value)

pub overflow_add-n : goal.overflow_add-n
overflow_add-n c = omega (arith, room_2 c)

pub loop-b-preserved : goal.loop-b-preserved
loop-b-preserved c =
    let inv = c.loop-b.invariant in
    let t : c.loop-b.b < length c.args.m.now / 512 = omega arith in (
      rw sum_more (omega (arith, c.count_in-count.ensures.value)),
      c.put_starts.ensures ∙ placed_block c.args.m.now c.args.kind c.args.out.now _ _ _ _ _ t c.requires.1 inv.0 inv.1 c.count_in-count.ensures.value,
      search rules,
    )

pub returns : goal.returns
unfolding starts_of
returns c = rw (le_antisymm c.loop-b.auto.b-end c.loop-b-test.false) at c.loop-b.invariant.1
