use lib.ListN.{length}
use Rattle.numerals.proofs.Bits.{Digits}
use Rattle.numerals.proofs.put_binary.Given as goal

abbrev pub invariant-loop-k : goal.invariant-loop-k
invariant-loop-k l = Digits l.x (length l.initial.out) l.out l.rest l.k
