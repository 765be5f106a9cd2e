-- The test on the two integers. Assumes nothing.
use borrow.Author.Rules.{rules}
use Rattle.rules.specs.Evaluation.{less_of}
use Rattle.expressions.proofs.operators.less.Goals as goal

pub returns : goal.returns
unfolding less_of
returns c = search rules
