-- The cases are counted.
use mathlib.Core.Path.{refl}
use Rattle.cases.specs.Inertial.{inertial_cases}
use Rattle.cases.proofs.Inertial.{inertial_played}
use Rattle.cases.proofs.Claims.{filtered_determined}
use Rattle.cases.proofs.inertial_cases.Goals as goal

pub returns : goal.returns
unfolding inertial_cases
returns c = record { value = refl; inertial_played = inertial_played; filtered_determined = filtered_determined }
