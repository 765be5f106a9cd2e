-- `with`: a bit more, or none. Assumes nothing.
use Rattle.sets.proofs.Bits.{with_one, with_none}
use Rattle.sets.proofs.with.Goals as goal

pub returns-then-b : goal.returns-then-b
returns-then-b c = with_one _ _ _ c.requires c.if-b.true

pub returns-else-b : goal.returns-else-b
returns-else-b c = with_none _ _ _ c.if-b.false
