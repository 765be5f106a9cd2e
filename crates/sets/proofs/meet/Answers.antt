-- `meet`: the sets have a bit in common. Assumes nothing.
use borrow.Author.Rules.{rules}
use Rattle.sets.proofs.Bits.{meets}
use Rattle.sets.proofs.meet.Goals as goal

pub returns : goal.returns
returns c = meets _ _ 32 (search rules)
