-- The sum of the two integers. Assumes nothing.
use borrow.Author.Rules.{rules}
use Rattle.rules.specs.Evaluation.{sum_of}
use Rattle.expressions.proofs.operators.plus.Goals as goal

pub returns : goal.returns
unfolding sum_of
returns c = search rules
