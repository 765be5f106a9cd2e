use Rattle.std.proofs.Common.{rules, tests, refl}
use Rattle.base.proofs.Ranges.{all_from_range}
use lib.Dec.{eqb}
use Rattle.values.specs.Resolve.{row_symmetric, pair_in}
use Rattle.values.proofs.row_symmetric.Goals as goal

pub returns : goal.returns
unfolding row_symmetric
returns c = all_from_range (λ y. eqb (pair_in c.args.table.now c.args.x y) (pair_in c.args.table.now y c.args.x)) c.all.ensures.ran refl (λ x b q k. search (rules, tests))
