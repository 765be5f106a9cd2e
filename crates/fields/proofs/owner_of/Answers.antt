use mathlib.Core.Path.{◌∙◌}
use Rattle.std.proofs.Common.{rules, tests, ltb}
use Rattle.base.proofs.Ranges.{first_from_range}
use Rattle.blocks.specs.Lent.{model_in}
use Rattle.fields.specs.Fields.{owner_of, end_of}
use Rattle.fields.proofs.owner_of.Goals as goal

pub returns : goal.returns
unfolding owner_of
returns c = c.unwrap_or.ensures ∙ first_from_range (λ p. ltb c.args.n (end_of (model_in c.args.records.now) p)) _ _ c.find.result c.find.ensures.ran c.args.records.now.totals_of.processes (λ x b q k. search (rules, tests))
