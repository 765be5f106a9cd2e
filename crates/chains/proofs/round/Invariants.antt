-- `round`: none of the numbers of edges passed leads back. Assumes nothing.
use Prim.Native.Nat.{◌≤◌}
use Rattle.sets.specs.Sets.{SetOf}
use Rattle.chains.specs.Rows.{arrow, leads_back}
use Rattle.chains.proofs.Sought.{NoneOf}
use Rattle.chains.proofs.Rounds.{closing}
use Rattle.chains.proofs.round.Given as goal

abbrev pub invariant-loop-l : goal.invariant-loop-l
invariant-loop-l l = (l.l ≤ l.n) × NoneOf (closing (arrow l.rows) l.n l.s) l.l × SetOf (leads_back l.rows l.n l.s l.l) l.set
