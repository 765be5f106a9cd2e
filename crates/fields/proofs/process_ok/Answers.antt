use Rattle.fields.proofs.FieldForms.{process_form}
use Rattle.fields.proofs.process_ok.Goals as goal

pub returns : goal.returns
returns c = process_form _ _ _ c.process-d.ensures _ c.due_start.ensures
