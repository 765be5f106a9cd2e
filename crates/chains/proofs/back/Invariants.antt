-- `back`: after each turn the set has the processes from which as many edges lead to s. Assumes nothing.
use Rattle.sets.specs.Sets.{SetOf}
use Rattle.chains.specs.Rows.{leads_back}
use Rattle.chains.proofs.back.Given as goal

abbrev pub invariant-loop : goal.invariant-loop
invariant-loop l = SetOf (leads_back l.rows l.n l.s l.counter) l.set
