use mathlib.Core.Path.{sym, ◌∙◌}
use native.Mathlib.Omega.{arith}
use Rattle.loop_exports.proofs.WordLaws.{none_written, one_written, written_length, room_left, all_written, truth_is}
use Rattle.loop_exports.proofs.put_words.Goals as goal

pub loop-i-init : goal.loop-i-init
loop-i-init c = none_written _ _ c.requires

pub bounds-out-i : goal.bounds-out-i
bounds-out-i c = omega (arith, written_length _ _ _ _ c.loop-i.invariant, c.loop-i-test.true)

pub loop-i-preserved : goal.loop-i-preserved
loop-i-preserved c = one_written _ _ _ _ c.loop-i-test.true c.loop-i.invariant

pub bounds-out-16 : goal.bounds-out-16
bounds-out-16 c = omega (arith, written_length _ _ _ _ c.loop-i.invariant)

pub bounds-out-17 : goal.bounds-out-17
bounds-out-17 c = room_left _ _ _ _ c.loop-i.invariant _

pub returns : goal.returns
returns c = rw (sym (c.from.ensures ∙ truth_is c.args.later)) (all_written _ _ _ _ c.loop-i-test.false c.loop-i.invariant _ _)
