-- By the type. Assumes nothing.
use mathlib.Core.Bool.{not}
use mathlib.Core.Path.{ap}
use Rattle.vcd.proofs.ValueLaws.{integers_alike, logics_alike}
use Rattle.vcd.proofs.differ.Goals as goal

pub returns-then-ty-eq0 : goal.returns-then-ty-eq0
returns-then-ty-eq0 c = ap not (integers_alike _ _ c.ranges.v.fits c.ranges.w.fits _ c.if-ty-eq0.true)

pub returns : goal.returns
returns c = ap not (logics_alike _ _ _ _ _ c.if-ty-eq0.false c.character.ensures c.character-2.ensures)
