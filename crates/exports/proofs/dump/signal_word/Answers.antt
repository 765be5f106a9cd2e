-- A signal that is there has its entry of the array, any other 0. Assumes nothing.
use mathlib.Core.Path.{sym}
use borrow.Author.Rules.{rules}
use Rattle.cycle.proofs.ViewLaws.{past_in}
use Rattle.exports.proofs.Words.{past_none}
use Rattle.exports.proofs.dump.signal_word.Goals as goal

pub returns-then-s-n : goal.returns-then-s-n
returns-then-s-n c = sym (search (rules, past_in))

pub returns : goal.returns
returns c = search (rules, past_none)
