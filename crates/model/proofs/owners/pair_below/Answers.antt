use mathlib.Core.Path.{refl}
use Rattle.model.specs.Owners.{pair_below}
use Rattle.model.proofs.owners.pair_below.Goals as goal

pub returns : goal.returns
unfolding pair_below
returns c = refl
