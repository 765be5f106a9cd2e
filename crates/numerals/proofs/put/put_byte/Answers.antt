-- Where there is room for the byte it is written. Assumes nothing.
use mathlib.Core.Path.{refl}
use native.Mathlib.Omega.{arith}
use Rattle.numerals.proofs.PutLaws.{one_held, counted}
use Rattle.numerals.proofs.put.put_byte.Goals as goal

pub returns-then-at-out : goal.returns-then-at-out
returns-then-at-out c = one_held _ _ _ c.if-at-out.true

pub returns-else-at-out : goal.returns-else-at-out
returns-else-at-out c = counted _ _ _ _ refl (omega (arith, c.if-at-out.false))
