-- `divide`: a divisor of 0 is fault 4; by any other the machine divides as the integers do. Assumes nothing.
use mathlib.Core.Path.{ap, ◌∙◌}
use Prim.Native.Nat.{◌<◌}
use borrow.Author.Rules.{rules}
use borrow.Author.Tests.{ne_eqb}
use mir.Syntax.{w32}
use mir.Val.{of_z}
use Rattle.std.specs.Prelude.{Ok}
use Rattle.rules.specs.Evaluation.{divided}
use Rattle.rules.proofs.Signed.{division_is, division_small}
use Rattle.expressions.proofs.operators.divide.Goals as goal

pub returns-then-y-eq0 : goal.returns-then-y-eq0
unfolding divided
returns-then-y-eq0 c = search rules

pub bits_of-requires : goal.bits_of-requires
bits_of-requires c =
    let l : c.in_ok-x.x < 4294967296 = search rules in
    let k : c.in_ok-y.y < 4294967296 = search rules in
    division_small _ l c.int.ensures _ k c.int-2.ensures c.args.which c.if-y-eq0.false c.divide.ensures.value

pub returns : goal.returns
unfolding divided
returns c =
    let l : c.in_ok-x.x < 4294967296 = search rules in
    let k : c.in_ok-y.y < 4294967296 = search rules in
    rw (c.in_ok-x.was, c.in_ok-y.was, ne_eqb _ 0 c.if-y-eq0.false)
    (ap Ok (c.bits_of.ensures ∙ ap (of_z w32) (division_is _ l c.int.ensures _ k c.int-2.ensures c.args.which c.if-y-eq0.false c.divide.ensures.value)))
