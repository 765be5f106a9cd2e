use mathlib.Core.Path.{◌≡◌}
use lib.ListN.{length}
use Rattle.blocks.proofs.Sections.{Filled}
use Rattle.blocks.proofs.blocks.put_index.Given as goal

abbrev pub invariant-loop-kind : goal.invariant-loop-kind
invariant-loop-kind l = (length l.out ≡ length l.initial.out) × Filled l.m l.kind l.out
