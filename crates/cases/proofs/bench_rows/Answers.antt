-- The rows hold by computation.
use mathlib.Core.Path.{refl}
use Rattle.cases.proofs.Bench.{the_rows, table, whole, division_used, faults_used}
use Rattle.cases.proofs.bench_rows.Goals as goal

pub returns : goal.returns
unfolding the_rows
returns c = record { value = refl; holds = table; table_whole = whole; division_used = division_used; faults_used = faults_used }
