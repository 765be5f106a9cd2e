use Rattle.std.proofs.Common.{rules, tests, ◌&&◌, ◌∙◌}
use Rattle.sets.specs.Sets.{in_set}
use Rattle.base.proofs.Iterators.{find_from_range}
use Rattle.chains.proofs.lowest.Goals as goal

pub returns : goal.returns
returns c = c.unwrap_or.ensures ∙ find_from_range _ c.args.n (λ w. in_set c.args.a w && in_set c.args.b w) c.find.result c.find.ensures.ran (λ x b q k. search (rules, tests))
