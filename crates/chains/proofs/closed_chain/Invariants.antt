-- `closed_chain`: none of the processes passed is on a closed chain. Assumes nothing.
use Prim.Native.Nat.{◌≤◌}
use Rattle.chains.specs.Rows.{arrow}
use Rattle.chains.proofs.Sought.{NoneOf}
use Rattle.chains.proofs.Rounds.{on_chain}
use Rattle.chains.proofs.closed_chain.Given as goal

abbrev pub invariant-loop-s : goal.invariant-loop-s
invariant-loop-s l = (l.s ≤ l.n) × NoneOf (on_chain (arrow l.rows) l.n) l.s
