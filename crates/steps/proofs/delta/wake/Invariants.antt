-- `wake`: the processes passed are those after the step, the others as they were. Assumes nothing.
use Rattle.expressions.specs.Lent.{model_of_program, read_in}
use Rattle.steps.proofs.DeltaProcesses.{Waking}
use Rattle.steps.proofs.delta.wake.Given as goal

abbrev pub invariant-loop-p : goal.invariant-loop-p
invariant-loop-p l = Waking (model_of_program l.program) l.time l.changed (read_in l.readings) l.initial.ps l.p l.ps
