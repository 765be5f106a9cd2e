use Rattle.std.proofs.Common.{rules, tests}
use Rattle.base.proofs.Ranges.{all_from_range}
use Rattle.blocks.specs.Lent.{model_in}
use Rattle.model.specs.Owners.{single_ok}
use Rattle.model.proofs.owners.singles_ok.Goals as goal

pub returns : goal.returns
returns c = all_from_range (single_ok (model_in c.args.records.now)) c.all.ensures.ran c.args.records.now.totals_of.signals (λ x b q k. search (rules, tests))
