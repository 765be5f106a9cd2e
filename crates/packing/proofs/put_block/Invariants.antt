-- The loop writes the bytes one after the other; the last word follows. Assumes nothing.
use mathlib.Core.Path.{◌≡◌}
use lib.ListN.{length}
use Rattle.packing.specs.Packed.{block_byte}
use Rattle.packing.proofs.BlockLaws.{Begun}
use Rattle.packing.proofs.put_block.Given as goal

abbrev pub invariant-loop-i : goal.invariant-loop-i
invariant-loop-i l = Begun (block_byte l.b (record { kind = l.kind; bytes = l.r })) l.initial.out l.i l.out × (length l.out ≡ 512)
