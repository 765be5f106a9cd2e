use Rattle.numerals.proofs.Bits.{no_digits, next_digit, all_digits}
use Rattle.numerals.proofs.put_binary.Goals as goal

pub loop-k-init : goal.loop-k-init
loop-k-init c = no_digits _ _

pub loop-k-preserved : goal.loop-k-preserved
loop-k-preserved c = next_digit c.loop-k.invariant c.loop-k-test.true

pub returns : goal.returns
returns c = all_digits c.loop-k.invariant c.loop-k.auto.k-end c.loop-k-test.false
