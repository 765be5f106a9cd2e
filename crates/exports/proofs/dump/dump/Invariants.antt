-- The words so far, then the rest of the buffer as it was. Assumes nothing.
use mathlib.Core.Path.{◌≡◌}
use mathlib.Core.List.{◌++◌}
use Prim.Native.Nat.{◌≤◌}
use lib.ListN.{length, take, drop}
use Rattle.base.specs.Below.{list_below}
use Rattle.cycle.specs.View.{view_of}
use Rattle.exports.specs.Dump.{word_of}
use Rattle.exports.proofs.dump.dump.Given as goal

abbrev pub invariant-loop-i : goal.invariant-loop-i
invariant-loop-i l =
    (l.i ≤ length l.initial.words) × (length l.words ≡ length l.initial.words) × (l.words ≡ (take 0 l.initial.words ++ list_below (word_of (view_of l.c)) l.i) ++ drop l.i l.initial.words)
