use mathlib.Core.Path.{◌≡◌}
use Prim.Native.Nat.{◌+◌, ◌*◌, ◌≤◌}
use Rattle.base.specs.Below.{sum_below}
use Rattle.base.specs.Bytes.{word_at}
use Rattle.blocks.proofs.blocks.block_sum.Given as goal

abbrev pub invariant-loop-i : goal.invariant-loop-i
invariant-loop-i l = (l.sum ≤ 65536 * l.i) × (l.sum ≡ sum_below (λ j. word_at l.m (512 * l.b + 2 * j)) l.i)
