use Rattle.fields.proofs.FieldForms.{variable_form}
use Rattle.fields.proofs.variable_ok.Goals as goal

pub returns : goal.returns
returns c = variable_form _ _ c.args.records.now.totals_of c.args.d _ c.value_ok.ensures
