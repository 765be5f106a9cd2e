-- The cycle of calls: a list reads statement after statement, a statement reads `while` and `if`, and these read lists. The measure is twice the text that is
-- left, and one more for a list, which reads a statement at its own place. Each return is an answer of proofs/Clauses and proofs/Lists. The loop over a list keeps
-- that an answer from the place reached is an answer from the start (`Onward`).
-- Assumes nothing.
use mathlib.Core.Path.{◌≡◌}
use lib.ListN.{length}
use Prim.Native.Nat.{◌≤◌, ◌+◌, ◌-◌, ◌*◌}
use Rattle.reader.proofs.Lists.{Onward}
use Rattle.reader.proofs.+chosen_list_repeated_statement.Given as goal

abbrev pub decreases-chosen : goal.decreases-chosen
decreases-chosen l = 2 * (length l.text.now - l.at)

abbrev pub decreases-list : goal.decreases-list
decreases-list l = 2 * (length l.text.now - l.at) + 1

abbrev pub decreases-repeated : goal.decreases-repeated
decreases-repeated l = 2 * (length l.text.now - l.at)

abbrev pub decreases-statement : goal.decreases-statement
decreases-statement l = 2 * (length l.text.now - l.at)

abbrev pub invariant-list-loop-s : goal.invariant-list-loop-s
invariant-list-loop-s l =
    (l.at ≤ l.i) × (l.i ≤ length l.text) × (l.m ≤ l.i) × (l.j ≤ l.i) × (length l.nodes ≡ length l.initial.nodes) × (length l.out ≡ length l.initial.out) × Onward l.text l.at l.room l.stop l.n l.k l.i l.m l.j l.initial.nodes l.nodes l.initial.out l.out

abbrev pub decreases-list-loop-s : goal.decreases-list-loop-s
decreases-list-loop-s l = length l.text - l.i
