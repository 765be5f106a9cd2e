use Rattle.fields.proofs.FieldForms.{end_fits}
use Rattle.fields.proofs.end_of.Goals as goal

pub overflow_add-result : goal.overflow_add-result
overflow_add-result c = end_fits _ (rw c.process-d.ensures (c.spans_fit.ensures c.args.p))
