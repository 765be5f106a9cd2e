-- `resolve`: the signals passed have their new values. Assumes nothing.
use mathlib.Core.Path.{◌≡◌}
use lib.ListN.{length}
use Rattle.expressions.specs.Lent.{model_of_program}
use Rattle.steps.specs.Delta.{ResolvedTo}
use Rattle.steps.proofs.delta.resolve.Given as goal

abbrev pub invariant-loop-s : goal.invariant-loop-s
invariant-loop-s l =
    (length l.signals ≡ 1056) × ResolvedTo (model_of_program l.program) l.currents l.ndrivers l.active l.initial.signals l.s l.signals l.changed
