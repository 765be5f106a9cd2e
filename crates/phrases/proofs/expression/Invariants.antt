-- The loop keeps what is read so far (proofs/GroupLaws): where an operand is awaited, and where one has been read.
-- Assumes nothing.
use mathlib.Core.Path.{◌≡◌}
use Prim.Native.Nat.{◌-◌, ◌≤◌}
use lib.ListN.{length}
use Rattle.phrases.proofs.GroupLaws.{Reads}
use Rattle.phrases.proofs.expression.Given as goal

abbrev pub invariant-loop-wanted : goal.invariant-loop-wanted
invariant-loop-wanted l =
    (l.at ≤ l.i) × (l.i ≤ length l.text) × (length l.text ≤ 65535) × (l.n ≤ l.i) × (l.depth ≤ l.i) × (l.nodes ≤ l.n) × (length l.out ≡ length l.initial.out) × (length l.stack ≡ 65536)
    × Reads l.text l.at l.nodes l.initial.out l.i l.n l.set l.depth l.wanted l.stack l.out

abbrev pub decreases-loop-wanted : goal.decreases-loop-wanted
decreases-loop-wanted l = length l.text - l.i
