-- `run_start`: the loop's steps. Assumes nothing.
use mathlib.Core.Path.{◌≡◌}
use Prim.Native.Nat.{◌-◌, ◌+◌}
use native.Mathlib.Omega.{arith}
use Rattle.waveforms.proofs.Schedules.{run_none, run_more, run_stops, run_whole}
use Rattle.waveforms.proofs.driver.run_start.Goals as goal

pub loop-last-init : goal.loop-last-init
loop-last-init c = run_none _ _ _

pub returns-then-not-holds : goal.returns-then-not-holds
returns-then-not-holds c =
    let e : c.loop-last.last - 1 + 1 ≡ c.loop-last.last = omega (arith, c.loop-last-test.true) in
    rw e (run_stops _ _ _ _ c.loop-last.invariant c.loop-last-test.true (rw c.holds.ensures at c.if-not-holds.true))

pub loop-last-preserved : goal.loop-last-preserved
loop-last-preserved c = run_more _ _ _ _ c.loop-last.invariant c.loop-last-test.true (rw c.holds.ensures at c.if-not-holds.false)

pub returns : goal.returns
returns c = let e : c.loop-last.last ≡ 0 = omega (arith, c.loop-last-test.false) in rw e at (run_whole _ _ _ _ c.loop-last.invariant c.loop-last-test.false)
