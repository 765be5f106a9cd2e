-- `first_places`: what the closure gives. Assumes nothing.
use borrow.Author.Rules.{rules}
use Rattle.cycle.proofs.config.first_places.Goals as goal

pub returns : goal.returns
returns c = record { at = λ i h. let p = c.entries.ensures i 0 h in search rules }
