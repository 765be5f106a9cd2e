use Rattle.std.proofs.Common.{◌+◌, rules, tests}
use Rattle.base.proofs.Ranges.{all_from_range}
use Rattle.blocks.specs.Records.{driver_at}
use Rattle.blocks.specs.Lent.{model_in}
use Rattle.model.specs.Owners.{pair_below, drivers_rise}
use Rattle.model.proofs.owners.drivers_rise.Goals as goal

pub returns : goal.returns
unfolding drivers_rise
returns c = let M = model_in c.args.records.now in all_from_range (λ i. pair_below (driver_at M i) (driver_at M (i + 1))) c.all.ensures.ran (search rules) (λ x b q k. search (rules, tests))
