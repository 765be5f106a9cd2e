use mathlib.Core.Path.{◌≡◌}
use Prim.Native.Nat.{◌+◌, ◌<◌}
use native.Mathlib.Omega.{arith}
use borrow.Author.Count.{below_none}
use lib.ListN.{length, length-set}
use Rattle.blocks.specs.Index.{types_at, index_size}
use Rattle.blocks.specs.Records.{model_of}
use Rattle.blocks.proofs.Lookup.{nodes_most}
use Rattle.blocks.proofs.Entries.{past, starts_set}
use Rattle.trees.proofs.TypeEntries.{types_next}
use Rattle.trees.proofs.types.fill_types.Goals as goal

pub loop-n-init : goal.loop-n-init
loop-n-init c = (c.requires.index_len, c.requires.starts, below_none _)

pub invariant_of-records : goal.invariant_of-records
invariant_of-records c = record { starts = c.loop-n.invariant.1; totals_of = c.requires.totals_of }

pub next_type-ty-requires-clause-types_below : goal.next_type-ty-requires-clause-types_below
next_type-ty-requires-clause-types_below c = c.loop-n.invariant.2

pub overflow_add-index : goal.overflow_add-index
overflow_add-index c = omega (arith, c.requires.totals_of.nodes, nodes_most (model_of c.args.m.now) c.requires.starts.totals)

pub offset_bounds-index-n : goal.offset_bounds-index-n
offset_bounds-index-n c = omega (arith, c.requires.totals_of.nodes, nodes_most (model_of c.args.m.now) c.requires.starts.totals)

-- the entry's place in the index
place : (c : goal.After-way_told-1) → types_at + c.loop-n.n < index_size
place c = omega (arith, c.requires.totals_of.nodes, nodes_most (model_of c.args.m.now) c.requires.starts.totals)

pub bounds-index-n : goal.bounds-index-n
bounds-index-n c = place c

pub loop-n-preserved : goal.loop-n-preserved
loop-n-preserved c = (
  simp length-set c.loop-n.invariant.0,
  starts_set _ c.loop-n.index (types_at + c.loop-n.n) c.next_type-ty.result (past types_at tt c.loop-n.n) c.loop-n.invariant.1,
  types_next _ c.loop-n.index c.loop-n.n c.next_type-ty.result (rw c.loop-n.invariant.0 (place c)) c.next_type-ty.ensures.value c.loop-n.invariant.2,
)

pub returns : goal.returns
returns c =
    let e : c.loop-n.n ≡ length (model_of c.args.m.now).nodes = omega (arith, c.requires.totals_of.nodes) in
    record { size = c.loop-n.invariant.0; starts = c.loop-n.invariant.1; type = rw e at c.loop-n.invariant.2 }
