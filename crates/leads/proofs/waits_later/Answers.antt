use Rattle.std.proofs.Common.{rules, tests}
use Rattle.base.proofs.Ranges.{all_from_range}
use Rattle.blocks.specs.Records.{statement_at}
use Rattle.blocks.specs.Lent.{model_in}
use Rattle.leads.specs.Leads.{wait_later, waits_later}
use Rattle.leads.proofs.waits_later.Goals as goal

pub returns : goal.returns
unfolding waits_later
returns c = all_from_range (λ n. wait_later (model_in c.args.records.now) (statement_at (model_in c.args.records.now) n)) c.all.ensures.ran c.args.records.now.totals_of.statements (λ x b q k. search (rules, tests))
