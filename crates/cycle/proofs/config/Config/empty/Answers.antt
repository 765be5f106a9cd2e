use mathlib.Core.Path.{refl}
use Rattle.cycle.proofs.First.{view_empty}
use Rattle.cycle.proofs.config.Config.empty.Goals as goal

pub returns : goal.returns
returns c = view_empty _ refl refl refl refl refl refl
