-- The lines are counted.
use mathlib.Core.Path.{refl}
use Rattle.cases.specs.Inverter.{inverter_lines}
use Rattle.cases.proofs.Inverter.{as_printed}
use Rattle.cases.proofs.Claims.{by_laws}
use Rattle.cases.proofs.Moves.{inverter_moved}
use Rattle.cases.proofs.inverter_lines.Goals as goal

pub returns : goal.returns
unfolding inverter_lines
returns c = record { value = refl; inverter_played = as_printed; inverter_laws = by_laws; inverter_moved = inverter_moved }
