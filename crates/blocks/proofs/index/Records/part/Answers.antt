use Rattle.std.proofs.Common.{◌+◌, ◌<◌, ◌≤◌, length, arith, refl}
use Rattle.blocks.specs.Index.{index_size}
use Rattle.blocks.proofs.Lookup.{inside}
use Rattle.blocks.proofs.Sections.{section_room}
use Rattle.blocks.proofs.Starts.{total_kind}
use Rattle.blocks.proofs.index.Records.part.Goals as goal

-- the place in the index
place : (c : goal.Start) → c.args.section + c.args.n < index_size
place c =
    let s = c.args.self.now.starts in
    let k = total_kind _ c.args.kind c.args.n s.heads c.requires.n_bound in
    omega (arith, section_room _ s.heads s.totals c.args.kind k.0 k.1, c.requires.section_value, c.requires.n_bound)

pub overflow_add-section : goal.overflow_add-section
overflow_add-section c = omega (arith, place c)

pub offset_bounds-self-section : goal.offset_bounds-self-section
offset_bounds-self-section c = omega (arith, place c)

pub bounds-self-section : goal.bounds-self-section
bounds-self-section c = place c

-- the record lies within the model
within : (c : goal.After-result-1) → c.from-start.result + 12 ≤ length c.args.self.now.bytes.now
within c = rw c.from-start.ensures (inside c.args.kind _ _ c.args.n _ (rw c.requires.section_value refl) c.args.self.now.starts c.requires.n_bound)

pub slice_bounds-result-end : goal.slice_bounds-result-end
slice_bounds-result-end c = within c
