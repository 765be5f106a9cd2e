-- `nearer`: one time after the other. Assumes nothing.
use native.Mathlib.Nat.{le_refl}
use native.Mathlib.Omega.{arith}
use lib.ListN.{get_or}
use mir.Syntax.{w32}
use mir.Val.{Fits}
use borrow.Author.Rules.{rules}
use Rattle.waveforms.proofs.Drivers.{nearing_none, nearing_more, nearing_all}
use Rattle.waveforms.proofs.driver.nearer.Goals as goal

pub loop-i-init : goal.loop-i-init
loop-i-init c = nearing_none _ _ (search rules)

pub overflow_cast-times : goal.overflow_cast-times
overflow_cast-times c =
    let small : Fits w32 (get_or c.args.times c.loop-i.i 0) = search rules in
    omega (arith, small.fits, c.requires.none_before _ c.loop-i-test.true)

pub overflow_sub-times : goal.overflow_sub-times
overflow_sub-times c = rw (c.loop-i.invariant.left _ (le_refl _)) (c.requires.none_before _ c.loop-i-test.true)

pub loop-i-preserved : goal.loop-i-preserved
loop-i-preserved c = nearing_more _ _ _ _ c.loop-i.invariant _ (omega (arith, c.loop-i-test.true, c.requires.count_bound)) (omega (arith, overflow_sub-times c))

pub returns : goal.returns
returns c = nearing_all _ _ _ _ c.loop-i.invariant _ c.loop-i.auto.i-end c.loop-i-test.false
