-- A driver that is there has its words, any other 0. Assumes nothing.
use borrow.Author.Rules.{rules}
use Rattle.exports.proofs.Words.{driver_some, driver_none}
use Rattle.exports.proofs.dump.driver_word.Goals as goal

pub returns-then-k-n : goal.returns-then-k-n
returns-then-k-n c = search (rules, driver_some)

pub returns : goal.returns
returns c = search (rules, driver_none)
