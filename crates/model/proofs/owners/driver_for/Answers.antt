use mathlib.Core.Path.{◌∙◌}
use Rattle.std.proofs.Common.{rules, tests}
use Rattle.base.proofs.Ranges.{first_from_range}
use Rattle.blocks.specs.Lent.{model_in}
use Rattle.model.specs.Owners.{driver_for}
use Rattle.model.proofs.Drivers.{is_for}
use Rattle.model.proofs.owners.driver_for.Goals as goal

pub returns : goal.returns
unfolding driver_for
returns c = c.unwrap_or.ensures ∙ first_from_range (is_for (model_in c.args.records.now) c.args.p c.args.s) _ _ c.find.result c.find.ensures.ran c.args.records.now.totals_of.drivers (λ x b q k. search (rules, tests))
