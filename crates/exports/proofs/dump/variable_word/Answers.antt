-- A variable that is there has its entry of the array, any other 0. Assumes nothing.
use mathlib.Core.Path.{sym}
use borrow.Author.Rules.{rules}
use Rattle.cycle.proofs.ViewLaws.{variable_in}
use Rattle.exports.proofs.Words.{variable_none}
use Rattle.exports.proofs.dump.variable_word.Goals as goal

pub returns-then-a-n : goal.returns-then-a-n
returns-then-a-n c = sym (search (rules, variable_in))

pub returns : goal.returns
returns c = search (rules, variable_none)
