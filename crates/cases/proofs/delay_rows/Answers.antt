-- The rows are counted.
use mathlib.Core.Path.{refl}
use Rattle.cases.specs.Delays.{delay_rows}
use Rattle.cases.proofs.Delays.{delays_hold, delays_played, delays_used}
use Rattle.cases.proofs.delay_rows.Goals as goal

pub returns : goal.returns
unfolding delay_rows
returns c = record { value = refl; holds = delays_hold; delays_played = delays_played; delays_used = delays_used }
