-- `model::owners::fill_drivers` meets its contract: the entries of the statements passed are their drivers, and the starts and
-- the types are kept. Assumes nothing.
use Rattle.trees.specs.Types.{TypesIn}
use Rattle.model.specs.Index.{DriversBelow}
use Rattle.model.proofs.owners.fill_drivers.Given as goal

abbrev pub invariant-loop-n : goal.invariant-loop-n
invariant-loop-n l = TypesIn l.m l.index × DriversBelow l.m l.index l.n
