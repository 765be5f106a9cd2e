use Rattle.std.proofs.Common.{refl, rules, tests}
use Rattle.base.proofs.Ranges.{all_from_range}
use Rattle.blocks.specs.Blocks.{sum_ok, sums_ok}
use Rattle.blocks.proofs.blocks.sums_ok.Goals as goal

pub returns : goal.returns
unfolding sums_ok sum_ok
returns c = all_from_range (sum_ok c.args.m.now) c.all.ensures.ran refl (λ x b q k. search (rules, tests))
