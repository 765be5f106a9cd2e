-- `schedule`: one more after those that are kept, unless it is a ninth. Assumes nothing.
use mathlib.Core.Path.{◌≡◌}
use borrow.Author.Rules.{rules}
use Rattle.waveforms.specs.Pending.{driven_of}
use Rattle.waveforms.proofs.Schedules.{scheduled_in, scheduled_ninth}
use Rattle.waveforms.proofs.driver.Driver.schedule.Goals as goal

pub returns-then-n-lt8 : goal.returns-then-n-lt8
returns-then-n-lt8 c =
    let held : driven_of c.word_for.result ≡ c.args.value = rw c.word_for.ensures c.requires.value_value in
    search (rules, scheduled_in)

pub returns-else-n-lt8 : goal.returns-else-n-lt8
returns-else-n-lt8 c = search (rules, scheduled_ninth)
