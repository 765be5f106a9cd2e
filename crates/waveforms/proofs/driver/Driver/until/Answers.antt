use borrow.Author.Rules.{rules}
use Rattle.waveforms.proofs.Schedules.{before_is}
use Rattle.waveforms.proofs.driver.Driver.until.Goals as goal

pub returns : goal.returns
returns c = search (rules, before_is)
