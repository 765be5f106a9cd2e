use mathlib.Core.Path.{◌≡◌}
use mathlib.Core.Bool.{true}
use Rattle.base.specs.Below.{all_below}
use Rattle.blocks.specs.Lent.{model_in}
use Rattle.trees.specs.Trees.{tree_ok}
use Rattle.trees.proofs.trees.trees_ok.Given as goal

abbrev pub invariant-loop-n : goal.invariant-loop-n
invariant-loop-n l = all_below (tree_ok (model_in l.fn.records)) l.n ≡ true
