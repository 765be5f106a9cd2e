use mathlib.Core.Logic.{⊎_elim}
use native.Mathlib.Omega.{arith}
use borrow.Author.Tests.{le-leb, lt-leb, ne_eqb}
use Rattle.trees.specs.Trees.{operands_of}
use Rattle.trees.proofs.trees.operands_of.Goals as goal

pub returns-in-6 : goal.returns-in-6
unfolding operands_of
returns-in-6 c = ⊎_elim (λ e. rw e) (λ e. rw e) c.in-6.is

pub returns-in-0-to-5 : goal.returns-in-0-to-5
unfolding operands_of
returns-in-0-to-5 c = rw (le-leb c.args.kind 5 (omega arith))

pub returns-in_default : goal.returns-in_default
unfolding operands_of
returns-in_default c = let x = c.args.kind in rw (lt-leb x 5 (omega arith), ne_eqb x 6 (λ e. grind arith), ne_eqb x 10 (λ e. grind arith))
