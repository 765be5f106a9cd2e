-- `keep`: the current values of the signals passed are kept. Assumes nothing.
use Rattle.steps.specs.Delta.{KeptTo}
use Rattle.steps.proofs.delta.keep.Given as goal

abbrev pub invariant-loop-s : goal.invariant-loop-s
invariant-loop-s l = KeptTo l.initial.signals l.s l.signals
