-- The picks are counted.
use mathlib.Core.Path.{sym}
use Rattle.cases.proofs.Claims.{determined, by_set_laws}
use Rattle.cases.proofs.inverter_picks.Goals as goal

pub returns : goal.returns
returns c = record { value = sym determined.settling_ends.comes.picks; inverter_determined = determined; inverter_sets = by_set_laws }
