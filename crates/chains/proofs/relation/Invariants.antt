-- `relation`: the rows of the processes passed are made. Assumes nothing.
use Rattle.chains.proofs.RowsMade.{Rowed}
use Rattle.chains.proofs.relation.Given as goal

abbrev pub invariant-loop-a : goal.invariant-loop-a
invariant-loop-a l = Rowed l.assigned l.waited l.n l.rows l.a
