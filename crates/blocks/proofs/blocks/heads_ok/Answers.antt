use Rattle.std.proofs.Common.{refl, rules, tests}
use Rattle.base.proofs.Ranges.{all_from_range}
use Rattle.blocks.specs.Blocks.{head_ok, heads_ok}
use Rattle.blocks.proofs.blocks.heads_ok.Goals as goal

pub returns : goal.returns
unfolding heads_ok
returns c = all_from_range (head_ok c.args.m.now) c.all.ensures.ran refl (λ x b q k. search (rules, tests))
