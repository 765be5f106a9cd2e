-- `has` is `in_set`. Assumes nothing.
use mathlib.Core.Path.{refl}
use borrow.Author.Rules.{rules}
use Rattle.sets.specs.Sets.{in_set}
use Rattle.sets.proofs.has.Goals as goal

pub overflow_shr-result : goal.overflow_shr-result
unfolding in_set
overflow_shr-result c = search rules

pub returns : goal.returns
unfolding in_set
returns c = refl
