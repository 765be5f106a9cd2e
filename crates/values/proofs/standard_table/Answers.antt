use Rattle.std.proofs.Common.{rules}
use Rattle.base.proofs.Iterators.{list_from_fn}
use Rattle.values.specs.Resolve.{standard_rows, entry_of, table_by, standard}
use Rattle.values.proofs.standard_table.Goals as goal

pub returns : goal.returns
unfolding standard table_by
returns c = list_from_fn _ (entry_of standard_rows) (λ i x q k. search rules) c.from_fn.ensures.items
