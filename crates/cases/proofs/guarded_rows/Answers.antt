-- The rows are counted.
use mathlib.Core.Path.{refl}
use Rattle.cases.specs.Guarded.{guarded_rows}
use Rattle.cases.proofs.Guarded.{guarded_hold, guarded_played}
use Rattle.cases.proofs.Claims.{shared_determined}
use Rattle.cases.proofs.guarded_rows.Goals as goal

pub returns : goal.returns
unfolding guarded_rows
returns c = record { value = refl; holds = guarded_hold; guarded_played = guarded_played; shared_determined = shared_determined }
