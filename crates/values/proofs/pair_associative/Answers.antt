use Rattle.std.proofs.Common.{rules, tests, refl}
use Rattle.base.proofs.Ranges.{all_from_range}
use lib.Dec.{eqb}
use Rattle.values.specs.Resolve.{pair_associative, pair_in}
use Rattle.values.proofs.pair_associative.Goals as goal

pub returns : goal.returns
unfolding pair_associative
returns c = all_from_range (λ z. eqb (pair_in c.args.table.now (pair_in c.args.table.now c.args.x c.args.y) z) (pair_in c.args.table.now c.args.x (pair_in c.args.table.now c.args.y z))) c.all.ensures.ran refl (λ x b q k. search (rules, tests))
