use Rattle.std.proofs.Common.{rules, tests, refl}
use Rattle.base.proofs.Ranges.{all_from_range}
use Rattle.values.specs.Resolve.{row_associative, associative}
use Rattle.values.proofs.associative.Goals as goal

pub returns : goal.returns
unfolding associative
returns c = all_from_range (row_associative c.args.table.now) c.all.ensures.ran refl (λ x b q k. search (rules, tests))
