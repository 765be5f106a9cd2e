-- The test on the 32 bits. Assumes nothing.
use borrow.Author.Rules.{rules}
use Rattle.rules.specs.Evaluation.{equal_of}
use Rattle.expressions.proofs.operators.equal.Goals as goal

pub returns : goal.returns
unfolding equal_of
returns c = search rules
