-- `join`: a bit of either set. Assumes nothing.
use Rattle.sets.proofs.Bits.{in_either}
use Rattle.sets.proofs.join.Goals as goal

pub returns : goal.returns
returns c = record { at = λ s l. in_either _ _ s }
