-- By the kind of the order. Assumes nothing.
use native.Mathlib.Omega.{arith}
use borrow.Author.Tests.{eq-eqb, ne_eqb}
use Rattle.text.proofs.value_in.Goals as goal

pub returns-then-kind-eq1 : goal.returns-then-kind-eq1
returns-then-kind-eq1 c = let is = c.byte.ensures in record { value = rw (eq-eqb _ 1 c.if-kind-eq1.true) is.value; upper_bound = omega (arith, is.small) }

pub returns : goal.returns
returns c = let is = c.long.ensures in record { value = rw (ne_eqb _ 1 c.if-kind-eq1.false) is.value; upper_bound = is.small }
