use mathlib.Core.Path.{◌≡◌}
use lib.ListN.{length}
use Rattle.base.specs.Below.{list_below}
use Rattle.values.specs.Resolve.{entry_of}
use Rattle.blocks.specs.Records.{model_of}
use Rattle.blocks.specs.Index.{index_size, table_at, placed, Starts}
use Rattle.tables.specs.Tables.{rows_of}
use Rattle.tables.proofs.put_table.Given as goal

abbrev pub invariant-loop-n : goal.invariant-loop-n
invariant-loop-n l = (length l.index ≡ index_size) × Starts l.m l.index × (l.index ≡ placed l.initial.index table_at (list_below (entry_of (rows_of (model_of l.m))) l.n))
