-- The difference of the two integers. Assumes nothing.
use borrow.Author.Rules.{rules}
use Rattle.rules.specs.Evaluation.{difference_of}
use Rattle.expressions.proofs.operators.minus.Goals as goal

pub returns : goal.returns
unfolding difference_of
returns c = search rules
