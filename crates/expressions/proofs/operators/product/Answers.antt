-- The product of the two integers. Assumes nothing.
use mathlib.Core.Path.{ap, ◌∙◌}
use Prim.Native.Nat.{◌<◌}
use borrow.Author.Rules.{rules}
use Rattle.rules.specs.Evaluation.{ranged, product_of}
use Rattle.rules.proofs.Signed.{product_is}
use Rattle.expressions.proofs.operators.product.Goals as goal

pub returns : goal.returns
unfolding product_of
returns c =
    let l : c.in_ok-x.x < 4294967296 = search rules in
    let k : c.in_ok-y.y < 4294967296 = search rules in
    rw (c.in_ok-x.was, c.in_ok-y.was) (c.in_range.ensures ∙ ap (ranged _) (product_is _ l c.int.ensures _ k c.int-2.ensures))
