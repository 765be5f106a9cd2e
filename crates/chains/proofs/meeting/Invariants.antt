-- `meeting`: the set has those of the processes passed whose row has one of the set given. Assumes nothing.
use Prim.Native.Nat.{◌≤◌}
use Rattle.sets.specs.Sets.{SetOf}
use Rattle.chains.proofs.Rounds.{passed, into}
use Rattle.chains.proofs.meeting.Given as goal

abbrev pub invariant-loop-v : goal.invariant-loop-v
invariant-loop-v l = (l.v ≤ l.n) × SetOf (passed (into l.rows l.set) l.v) l.out
