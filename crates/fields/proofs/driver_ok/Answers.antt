use Rattle.fields.proofs.FieldForms.{driver_form}
use Rattle.fields.proofs.driver_ok.Goals as goal

pub returns : goal.returns
returns c = driver_form _ _ c.args.records.now.totals_of c.args.d
