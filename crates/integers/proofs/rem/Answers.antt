-- `rem`: the machine's remainder is that of the integers. Assumes nothing.
use Rattle.integers.proofs.Machine.{divides, rem_read}
use Rattle.integers.proofs.rem.Goals as goal

pub nonzero_rem-result : goal.nonzero_rem-result
nonzero_rem-result c = divides c.args.a c.args.b c.requires

pub returns : goal.returns
returns c = rem_read c.args.a c.args.b c.requires
