-- `earliest`: the loop's steps. Assumes nothing.
use mathlib.Core.List.{List}
use Prim.Native.Nat.{ℕ, ◌≤◌, ◌<◌}
use native.Mathlib.Omega.{arith}
use lib.ListN.{length, take, length-take}
use lib.Seq.{get_or-take}
use Rattle.rules.proofs.Earliest.{least_start, least_next, least_found, least_done}
use Rattle.waveforms.specs.Pending.{never}
use Rattle.due.proofs.earliest.Goals as goal

module _ (times : List ℕ) (n i : ℕ) (l : n ≤ length times) where
  inside : i < length (take n times) → i < n
  inside h = omega (arith, length-take n times)

  outside : length (take n times) ≤ i → n ≤ i
  outside h = omega (arith, length-take n times)

  within : i ≤ length (take n times) → i ≤ n
  within h = omega (arith, length-take n times)

pub loop-x-init : goal.loop-x-init
loop-x-init c = least_start never _

pub returns-then-x-time : goal.returns-then-x-time
returns-then-x-time c =
    let here = inside _ _ _ c.requires.n_in_bounds c.loop-x-test.true in
    least_found never _ _ _ _ here (rw (get_or-take c.args.n c.args.times.now c.loop-x.x-index 0 here) at c.if-x-time.true) (omega (arith, c.ranges.time.fits)) c.requires.none_before

pub loop-x-preserved : goal.loop-x-preserved
loop-x-preserved c =
    let here = inside _ _ _ c.requires.n_in_bounds c.loop-x-test.true in
    least_next never _ _ _ _ c.loop-x.invariant (rw (get_or-take c.args.n c.args.times.now c.loop-x.x-index 0 here) at c.min-t.ensures)

pub returns : goal.returns
returns c =
    least_done never _ _ _ _ (within _ _ _ c.requires.n_in_bounds c.loop-x.auto.x-index-end) (outside _ _ _ c.requires.n_in_bounds c.loop-x-test.false) c.loop-x.invariant
