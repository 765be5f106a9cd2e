-- `next_place`: by whether a statement follows in the process. Assumes nothing.
use borrow.Author.Rules.{rules}
use Rattle.expressions.proofs.Statements.{next_inside, next_first}
use Rattle.expressions.proofs.effect.next_place.Goals as goal

pub returns-then-i-r : goal.returns-then-i-r
returns-then-i-r c = search (rules, next_inside)

pub returns-else-i-r : goal.returns-else-i-r
returns-else-i-r c = search (rules, next_first)
