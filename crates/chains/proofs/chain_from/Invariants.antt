-- `chain_from`: the entries made and the chain from the process reached are the whole chain. Assumes nothing.
use Rattle.chains.proofs.Rounds.{Made}
use Rattle.chains.proofs.chain_from.Given as goal

abbrev pub invariant-loop-i : goal.invariant-loop-i
invariant-loop-i l = Made l.rows l.n l.s l.l l.at l.v l.i
