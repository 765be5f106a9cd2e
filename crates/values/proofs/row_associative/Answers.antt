use Rattle.std.proofs.Common.{rules, tests, refl}
use Rattle.base.proofs.Ranges.{all_from_range}
use Rattle.values.specs.Resolve.{pair_associative, row_associative}
use Rattle.values.proofs.row_associative.Goals as goal

pub returns : goal.returns
unfolding row_associative
returns c = all_from_range (pair_associative c.args.table.now c.args.x) c.all.ensures.ran refl (λ x b q k. search (rules, tests))
