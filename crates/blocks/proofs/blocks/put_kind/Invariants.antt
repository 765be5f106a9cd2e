use mathlib.Core.Path.{◌≡◌}
use Prim.Native.Nat.{◌+◌}
use lib.ListN.{length}
use Rattle.base.specs.Below.{sum_below, join_below}
use Rattle.blocks.specs.Blocks.{count_in, starts_in}
use Rattle.blocks.specs.Index.{placed}
use Rattle.blocks.proofs.blocks.put_kind.Given as goal

abbrev pub invariant-loop-b : goal.invariant-loop-b
invariant-loop-b l = (l.n ≡ l.at + sum_below (count_in l.kind l.m) l.b) × (l.out ≡ placed l.initial.out l.at (join_below (starts_in l.kind l.m) l.b)) × (length l.out ≡ length l.initial.out)
