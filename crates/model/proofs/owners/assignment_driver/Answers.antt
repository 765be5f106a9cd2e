use mathlib.Core.Path.{◌∙◌}
use native.Mathlib.Omega.{arith}
use Rattle.blocks.specs.Lent.{model_in}
use Rattle.blocks.proofs.Lookup.{statements_most}
use Rattle.model.proofs.owners.assignment_driver.Goals as goal

pub overflow_add-n : goal.overflow_add-n
overflow_add-n c = omega (arith, c.requires.n_in_bounds, statements_most (model_in c.args.records.now) c.args.records.now.starts.totals)

pub offset_bounds-records-n : goal.offset_bounds-records-n
offset_bounds-records-n c = omega (arith, c.requires.n_in_bounds, statements_most (model_in c.args.records.now) c.args.records.now.starts.totals)

pub bounds-records-n : goal.bounds-records-n
bounds-records-n c = omega (arith, c.requires.n_in_bounds, statements_most (model_in c.args.records.now) c.args.records.now.starts.totals)

pub returns : goal.returns
returns c = c.from.ensures ∙ c.requires.drivers _ c.requires.n_in_bounds
