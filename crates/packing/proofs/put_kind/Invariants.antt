-- The loop puts a block after another. Assumes nothing.
use mathlib.Core.Path.{◌≡◌}
use lib.ListN.{length}
use Rattle.packing.proofs.PageLaws.{Put}
use Rattle.packing.proofs.put_kind.Given as goal

abbrev pub invariant-loop-j : goal.invariant-loop-j
invariant-loop-j l = Put l.initial.out l.b l.kind l.r l.j l.out × (length l.out ≡ length l.initial.out)
