use mathlib.Core.Path.{refl}
use Rattle.cycle.proofs.OrderLaws.{read_none, read_some}
use Rattle.cycle.proofs.config.Config.read.Goals as goal

pub returns-then-s-self : goal.returns-then-s-self
returns-then-s-self c = record { read_to = read_none _ _ _ c.if-s-self.true c.refused.ensures.result_value; keeps = c.refused.ensures.keeps }

pub returns : goal.returns
returns c = record { read_to = read_some _ _ c.if-s-self.false _ refl; keeps = λ M f. f }
