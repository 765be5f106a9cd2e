use mathlib.Core.Path.{◌≡◌}
use lib.ListN.{length}
use Rattle.base.specs.Below.{list_below}
use Rattle.blocks.specs.Blocks.{start_at}
use Rattle.blocks.specs.Index.{placed}
use Rattle.blocks.proofs.blocks.put_starts.Given as goal

abbrev pub invariant-loop-j : goal.invariant-loop-j
invariant-loop-j l = (l.out ≡ placed l.initial.out l.at (list_below (start_at l.b) l.j)) × (length l.out ≡ length l.initial.out)
