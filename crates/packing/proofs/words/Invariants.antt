-- The loop keeps the sum of the words so far. Assumes nothing.
use mathlib.Core.Path.{◌≡◌}
use Prim.Native.Nat.{◌*◌, ◌≤◌}
use Rattle.base.specs.Below.{sum_below}
use Rattle.base.specs.Bytes.{word_at}
use Rattle.packing.proofs.words.Given as goal

abbrev pub invariant-loop-i : goal.invariant-loop-i
invariant-loop-i l = (l.sum ≤ 65536 * l.i) × (l.sum ≡ sum_below (λ j. word_at l.block (2 * j)) l.i)
