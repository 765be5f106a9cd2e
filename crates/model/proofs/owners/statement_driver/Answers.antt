use Rattle.model.proofs.RuleForms.{driver_named, driver_small}
use Rattle.model.proofs.owners.statement_driver.Goals as goal

pub returns : goal.returns
returns c = record { value = driver_named _ _ _ c.statement-s.ensures _ _ c.owner_of-p.ensures _ c.driver_for.ensures; upper_bound = driver_small _ c.args.records.now.starts.totals _ _ _ c.driver_for.ensures }
