-- The rows are counted.
use mathlib.Core.Path.{refl}
use Rattle.cases.specs.OwnTable.{own_rows}
use Rattle.cases.proofs.OwnTable.{own_hold, own_played, own_used}
use Rattle.cases.proofs.own_table_rows.Goals as goal

pub returns : goal.returns
unfolding own_rows
returns c = record { value = refl; holds = own_hold; own_table_played = own_played; own_table_used = own_used }
