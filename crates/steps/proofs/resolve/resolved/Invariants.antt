use Rattle.expressions.specs.Lent.{model_of_program}
use Rattle.steps.proofs.Resolving.{Gathered}
use Rattle.steps.proofs.resolve.resolved.Given as goal

abbrev pub invariant-loop-k : goal.invariant-loop-k
invariant-loop-k l = Gathered (model_of_program l.program) l.currents l.s l.k l.driving l.n
