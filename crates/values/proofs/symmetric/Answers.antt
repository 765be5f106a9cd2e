use Rattle.std.proofs.Common.{rules, tests, refl}
use Rattle.base.proofs.Ranges.{all_from_range}
use Rattle.values.specs.Resolve.{row_symmetric, symmetric}
use Rattle.values.proofs.symmetric.Goals as goal

pub returns : goal.returns
unfolding symmetric
returns c = all_from_range (row_symmetric c.args.table.now) c.all.ensures.ran refl (λ x b q k. search (rules, tests))
