-- The rows hold by computation.
use mathlib.Core.Path.{refl}
use Rattle.base.specs.Below.{list_below}
use Rattle.values.specs.Nine.{code_of}
use Rattle.values.specs.Resolve.{standard_rows, entry_of, table_by, standard, pair_in, pair_of, resolution_by, resolution_of}
use Rattle.values.specs.Bench.{rows, holds}
use Rattle.values.proofs.bench_rows.Goals as goal

pub returns : goal.returns
unfolding rows holds resolution_of resolution_by pair_of pair_in standard table_by list_below entry_of standard_rows code_of
returns c = record { value = refl; holds = refl }
