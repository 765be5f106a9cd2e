use Rattle.model.proofs.RuleForms.{owners_form}
use Rattle.model.proofs.owners.owners_ok.Goals as goal

pub returns-clause-value : goal.returns-clause-value
returns-clause-value c = owners_form _ c.drivers_rise-rise.ensures c.singles_ok-single.ensures c.statements_owned-owned.ensures
