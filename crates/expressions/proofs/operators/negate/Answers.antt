-- The negation of the integer. Assumes nothing.
use borrow.Author.Rules.{rules}
use Rattle.rules.specs.Evaluation.{negate_of}
use Rattle.expressions.proofs.operators.negate.Goals as goal

pub returns : goal.returns
unfolding negate_of
returns c = search rules
