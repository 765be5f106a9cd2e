use Rattle.fields.proofs.FieldForms.{span_form}
use Rattle.fields.proofs.in_span.Goals as goal

pub returns : goal.returns
returns c = span_form _ _ _ c.process.ensures _ _ c.end_of.ensures
