-- Past the end a byte is 0 by definition. Assumes nothing.
use mathlib.Core.Path.{sym}
use native.Mathlib.Omega.{arith}
use lib.ListN.{get_or-eq_default}
use Rattle.packing.proofs.byte_or_zero.Goals as goal

pub returns-else-i-r : goal.returns-else-i-r
returns-else-i-r c = record { value = sym (get_or-eq_default c.args.r.now 0 c.if-i-r.false); small = omega arith }
