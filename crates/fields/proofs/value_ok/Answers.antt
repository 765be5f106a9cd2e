use native.Mathlib.Omega.{arith}
use borrow.Author.Tests.{ne_eqb}
use Rattle.fields.specs.Fields.{value_ok}
use Rattle.fields.proofs.value_ok.Goals as goal

pub returns-in-0 : goal.returns-in-0
unfolding value_ok
returns-in-0 c = rw c.in-0.is

pub returns-in-1 : goal.returns-in-1
unfolding value_ok
returns-in-1 c = rw c.in-1.is

pub returns-in-2 : goal.returns-in-2
unfolding value_ok
returns-in-2 c = rw c.in-2.is

pub returns-in_default : goal.returns-in_default
unfolding value_ok
returns-in_default c = let x = c.args.ty in rw (ne_eqb x 0 (λ e. omega arith), ne_eqb x 1 (λ e. omega arith), ne_eqb x 2 (λ e. omega arith))
