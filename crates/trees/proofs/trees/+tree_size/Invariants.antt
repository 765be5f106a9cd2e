use Rattle.trees.proofs.trees.+tree_size.Given as goal

abbrev pub decreases-tree_size : goal.decreases-tree_size
decreases-tree_size l = l.n
