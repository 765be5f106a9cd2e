-- `elapsed`: the times are nearer, so the same transactions are pending. Assumes nothing.
use Rattle.waveforms.proofs.Drivers.{elapsed_is}
use Rattle.waveforms.proofs.driver.Driver.elapsed.Goals as goal

pub returns : goal.returns
returns c = elapsed_is _ _ _ c.nearer-times.ensures
