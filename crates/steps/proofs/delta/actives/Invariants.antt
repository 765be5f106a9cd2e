-- `actives`: the set has a signal where a driver of it, of those passed, has a transaction due. Assumes nothing.
use Rattle.sets.specs.Sets.{SetOf}
use Rattle.expressions.specs.Lent.{model_of_program}
use Rattle.steps.specs.Delta.{active_in}
use Rattle.steps.proofs.delta.actives.Given as goal

abbrev pub invariant-loop-k : goal.invariant-loop-k
invariant-loop-k l = SetOf (active_in (model_of_program l.program) l.due l.time l.k) l.active
