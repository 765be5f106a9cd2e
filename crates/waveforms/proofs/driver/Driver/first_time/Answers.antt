-- `first_time`: by whether there is a first. Assumes nothing.
use borrow.Author.Rules.{rules}
use Rattle.waveforms.proofs.Drivers.{first_none, first_some}
use Rattle.waveforms.proofs.driver.Driver.first_time.Goals as goal

pub returns-then-n-eq0 : goal.returns-then-n-eq0
returns-then-n-eq0 c = search (rules, first_none)

pub returns : goal.returns
returns c = search (rules, first_some)
