-- A signal that is there has its earlier value of the array, any other 0. Assumes nothing.
use mathlib.Core.Path.{sym}
use borrow.Author.Rules.{rules}
use Rattle.cycle.proofs.ViewLaws.{earlier_in_lem}
use Rattle.exports.proofs.Words.{earlier_none}
use Rattle.exports.proofs.dump.earlier_word.Goals as goal

pub returns-then-s-n : goal.returns-then-s-n
returns-then-s-n c = sym (search (rules, earlier_in_lem))

pub returns : goal.returns
returns c = search (rules, earlier_none)
