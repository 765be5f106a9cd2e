use borrow.Author.Rules.{rules}
use Rattle.waveforms.proofs.Drivers.{shifted_pending}
use Rattle.waveforms.proofs.driver.Driver.without_first.Goals as goal

pub returns : goal.returns
returns c = search (rules, shifted_pending)
