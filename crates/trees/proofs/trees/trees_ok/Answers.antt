use mathlib.Core.Path.{◌≡◌, sym, ◌∙◌}
use native.Mathlib.Omega.{arith}
use lib.ListN.{length}
use Rattle.base.proofs.Below.{all_none, all_at, all_more, all_fails}
use Rattle.blocks.specs.Lent.{model_in}
use Rattle.trees.specs.Trees.{trees_ok}
use Rattle.trees.proofs.trees.trees_ok.Goals as goal

pub loop-n-init : goal.loop-n-init
loop-n-init c = all_none _

pub tree_ok-requires-clause-by_index : goal.tree_ok-requires-clause-by_index
tree_ok-requires-clause-by_index c = λ k h. all_at _ _ k h c.loop-n.invariant

pub returns-then-not-tree_ok : goal.returns-then-not-tree_ok
unfolding trees_ok
returns-then-not-tree_ok c =
    let there = rw c.args.records.now.totals_of.nodes at c.loop-n-test.true in
    sym (all_fails _ _ _ there (sym c.tree_ok.ensures ∙ c.if-not-tree_ok.true))

pub loop-n-preserved : goal.loop-n-preserved
loop-n-preserved c = all_more _ _ c.loop-n.invariant (sym c.tree_ok.ensures ∙ c.if-not-tree_ok.false)

pub returns : goal.returns
unfolding trees_ok
returns c =
    let e : c.loop-n.n ≡ length (model_in c.args.records.now).nodes = omega (arith, c.args.records.now.totals_of.nodes) in
    sym (rw e at c.loop-n.invariant)
