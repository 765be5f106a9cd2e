use Rattle.std.proofs.Common.{rules, tests}
use Rattle.base.proofs.Ranges.{all_from_range}
use Rattle.blocks.specs.Records.{statement_at}
use Rattle.blocks.specs.Lent.{model_in}
use Rattle.fields.specs.Fields.{owner_of}
use Rattle.model.specs.Owners.{statement_owned}
use Rattle.model.proofs.owners.statements_owned.Goals as goal

pub returns : goal.returns
returns c = let M = model_in c.args.records.now in all_from_range (λ n. statement_owned M (owner_of M n) (statement_at M n)) c.all.ensures.ran c.args.records.now.totals_of.statements (λ x b q k. search (rules, tests))
