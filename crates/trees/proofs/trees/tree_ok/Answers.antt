use mathlib.Core.Path.{sym}
use Rattle.trees.specs.Trees.{tree_ok}
use Rattle.trees.proofs.trees.tree_ok.Goals as goal

pub returns-then-lower_ok : goal.returns-then-lower_ok
unfolding tree_ok
returns-then-lower_ok c =
    let e = sym c.node.ensures in
    rw (e, sym c.lower_ok.ensures, c.if-lower_ok.true, sym c.tree_size.ensures)

pub returns-else-lower_ok : goal.returns-else-lower_ok
unfolding tree_ok
returns-else-lower_ok c =
    let e = sym c.node.ensures in
    rw (e, sym c.lower_ok.ensures, c.if-lower_ok.false)
