use Rattle.std.proofs.Common.{◌+◌, refl, rules, tests, eqb}
use Rattle.base.proofs.Ranges.{all_from_range}
use Rattle.base.specs.Bytes.{byte_at}
use Rattle.blocks.specs.Records.{zeros_at}
use Rattle.blocks.proofs.records.zeros.Goals as goal

pub returns : goal.returns
unfolding zeros_at
returns c = all_from_range (λ j. eqb (byte_at c.args.r.now (c.args.i + j)) 0) c.all.ensures.ran refl (λ x b q k. search (rules, tests))
