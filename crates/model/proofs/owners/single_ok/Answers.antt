use mathlib.Core.Path.{ap}
use Rattle.model.proofs.RuleForms.{single_form}
use Rattle.model.proofs.owners.single_ok.Goals as goal

pub returns : goal.returns
returns c = single_form _ _ _ _ (ap (λ d. d.ty) c.signal.ensures) c.drivers_of.ensures
