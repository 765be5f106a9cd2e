use Rattle.std.proofs.Common.{rules, tests}
use Rattle.base.proofs.Ranges.{all_from_range}
use Rattle.blocks.specs.Records.{statement_at}
use Rattle.blocks.specs.Lent.{model_in}
use Rattle.model.specs.Nulls.{null_ok, nulls_ok}
use Rattle.model.proofs.nulls.nulls_ok.Goals as goal

pub returns : goal.returns
unfolding nulls_ok
returns c = all_from_range (λ n. null_ok (model_in c.args.records.now) (statement_at (model_in c.args.records.now) n)) c.all.ensures.ran c.args.records.now.totals_of.statements (λ x b q k. search (rules, tests))
