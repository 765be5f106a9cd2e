use mathlib.Core.Path.{◌≡◌}
use Prim.Native.Nat.{◌*◌, ◌≤◌}
use Rattle.base.specs.Below.{sum_below}
use Rattle.blocks.specs.Blocks.{count_in}
use Rattle.blocks.proofs.blocks.total.Given as goal

abbrev pub invariant-loop-b : goal.invariant-loop-b
invariant-loop-b l = (l.n ≤ 255 * l.b) × (l.n ≡ sum_below (count_in l.kind l.m) l.b)
