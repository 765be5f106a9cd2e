-- As the definition has it. Assumes nothing.
use mathlib.Core.Path.{refl}
use Rattle.session.specs.Sessions.{orders_ok}
use Rattle.session.proofs.orders_ok.Goals as goal

pub returns : goal.returns
unfolding orders_ok
returns c = refl
