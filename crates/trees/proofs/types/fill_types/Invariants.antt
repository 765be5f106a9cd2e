-- `trees::types::fill_types` meets its contract: the entries of the nodes passed are their types, and the starts are kept.
-- Assumes nothing.
use mathlib.Core.Path.{◌≡◌}
use lib.ListN.{length}
use Rattle.blocks.specs.Index.{index_size, Starts}
use Rattle.trees.specs.Types.{TypesBelow}
use Rattle.trees.proofs.types.fill_types.Given as goal

abbrev pub invariant-loop-n : goal.invariant-loop-n
invariant-loop-n l = (length l.index ≡ index_size) × Starts l.m l.index × TypesBelow l.m l.index l.n
