use Rattle.fields.proofs.FieldForms.{signal_form}
use Rattle.fields.proofs.signal_ok.Goals as goal

pub returns : goal.returns
returns c = signal_form c.args.d _ c.value_ok.ensures
