use Rattle.blocks.proofs.Lookup.{processes_some}
use Rattle.fields.proofs.FieldForms.{total_some, last_there, covered_form}
use Rattle.fields.proofs.all_covered.Goals as goal

pub overflow_sub-records : goal.overflow_sub-records
overflow_sub-records c = let r = c.args.records.now in total_some _ _ r.totals_of (processes_some _ r.starts.totals)

pub end_of-requires : goal.end_of-requires
end_of-requires c = let r = c.args.records.now in last_there _ _ r.totals_of (processes_some _ r.starts.totals)

pub returns : goal.returns
returns c = covered_form _ _ c.args.records.now.totals_of _ c.end_of.ensures
