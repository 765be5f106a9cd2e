use native.Mathlib.Omega.{arith}
use Rattle.blocks.specs.Lent.{model_in}
use Rattle.blocks.proofs.Lookup.{nodes_most}
use Rattle.trees.proofs.types.type_at.Goals as goal

pub overflow_add-n : goal.overflow_add-n
overflow_add-n c = omega (arith, c.requires.n_in_bounds, nodes_most (model_in c.args.records.now) c.args.records.now.starts.totals)

pub entry-requires : goal.entry-requires
entry-requires c = omega (arith, c.requires.n_in_bounds, nodes_most (model_in c.args.records.now) c.args.records.now.starts.totals)
