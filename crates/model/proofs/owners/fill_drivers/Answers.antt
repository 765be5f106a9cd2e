use Prim.Native.Nat.{◌+◌}
use native.Mathlib.Nat.{le_antisymm}
use mathlib.Core.Path.{◌∙◌}
use borrow.Author.Count.{below_none}
use lib.ListN.{length-set}
use Rattle.blocks.specs.Index.{assignments_at}
use Rattle.blocks.specs.Records.{model_of}
use Rattle.blocks.proofs.Lookup.{nodes_most, statements_most}
use Rattle.blocks.proofs.Entries.{entry_place, entry_fits, entry_scaled, past, starts_set}
use Rattle.trees.proofs.TypeEntries.{types_before, types_kept}
use Rattle.model.proofs.Entries.{drivers_next}
use Rattle.model.proofs.owners.fill_drivers.Goals as goal

pub loop-n-init : goal.loop-n-init
loop-n-init c = (c.requires.types_in, below_none _)

pub overflow_add-index : goal.overflow_add-index
overflow_add-index c = entry_fits assignments_at 200 tt _ _ (rw c.requires.totals_of.statements at c.loop-n-test.true) (statements_most _ c.requires.types_in.starts.totals)

pub offset_bounds-index-n : goal.offset_bounds-index-n
offset_bounds-index-n c = entry_scaled assignments_at 200 tt _ _ (rw c.requires.totals_of.statements at c.loop-n-test.true) (statements_most _ c.requires.types_in.starts.totals)

pub bounds-index-n : goal.bounds-index-n
bounds-index-n c = entry_place assignments_at 200 tt _ _ (rw c.requires.totals_of.statements at c.loop-n-test.true) (statements_most _ c.requires.types_in.starts.totals)

pub loop-n-preserved : goal.loop-n-preserved
loop-n-preserved c =
    let i = assignments_at + c.loop-n.n in
    let k = c.statement_driver-k.result in
    let types = c.loop-n.invariant.0 in
    let place = entry_place assignments_at 200 tt _ _ (rw c.requires.totals_of.statements at c.loop-n-test.true) (statements_most _ c.requires.types_in.starts.totals) in (
      record {
        size = simp length-set types.size;
        starts = starts_set _ c.loop-n.index i k (past assignments_at tt c.loop-n.n) types.starts;
        type = types_kept _ c.loop-n.index i k _ (types_before _ c.loop-n.n (nodes_most (model_of c.args.m.now) types.starts.totals)) types.type;
      },
      drivers_next _ c.loop-n.index c.loop-n.n k (rw types.size place) c.statement_driver-k.ensures.value c.loop-n.invariant.1,
    )

pub returns : goal.returns
returns c =
    let e = le_antisymm c.loop-n.auto.n-end c.loop-n-test.false ∙ c.requires.totals_of.statements in
    record { types = c.loop-n.invariant.0; driver = rw e at c.loop-n.invariant.1 }
