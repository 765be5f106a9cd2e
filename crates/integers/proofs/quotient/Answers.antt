-- `quotient`: the machine's quotient fits, and is that of the integers. Assumes nothing.
use Rattle.integers.proofs.Machine.{divides, quotient_read}
use Rattle.integers.proofs.quotient.Goals as goal

pub nonzero_div-result : goal.nonzero_div-result
nonzero_div-result c = divides c.args.a c.args.b c.requires

pub returns : goal.returns
returns c = quotient_read c.args.a c.args.b c.requires
