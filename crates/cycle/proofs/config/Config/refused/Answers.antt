use Rattle.cycle.proofs.OrderLaws.{refused_is}
use Rattle.cycle.proofs.config.Config.refused.Goals as goal

pub returns : goal.returns
returns c = record { result_value = rw (c.refused.ensures, c.number.ensures) (refused_is _ _); keeps = λ M f. f }
