use mathlib.Core.Path.{refl}
use Rattle.waveforms.proofs.Drivers.{pending_none}
use Rattle.waveforms.proofs.driver.Driver.none.Goals as goal

pub returns : goal.returns
returns c = λ t. pending_none t _ refl
