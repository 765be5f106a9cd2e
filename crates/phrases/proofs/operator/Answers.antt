-- The code of the first token decides.
-- Assumes nothing.
use Rattle.phrases.proofs.Operands.{no_operator_token}
use Rattle.phrases.proofs.operator.Goals as goal

pub returns-in_default : goal.returns-in_default
returns-in_default c = no_operator_token c.token-found.ensures c.in_default.not-Word
