use mathlib.Core.Path.{◌≡◌, sym, ◌∙◌}
use native.Mathlib.Omega.{arith}
use borrow.Author.Tests.{ne_eqb}
use Rattle.trees.specs.Trees.{operands_of, lower_ok}
use Rattle.trees.proofs.trees.lower_ok.Goals as goal

pub returns-in-0 : goal.returns-in-0
unfolding lower_ok
returns-in-0 c = let e = sym c.operands_of.ensures ∙ c.in-0.is in rw e

pub returns-in-1 : goal.returns-in-1
unfolding lower_ok
returns-in-1 c = let e = sym c.operands_of.ensures ∙ c.in-1.is in rw e

pub returns-in_default : goal.returns-in_default
unfolding lower_ok
returns-in_default c =
    rw (ne_eqb _ 0 (λ (e : operands_of c.args.d.kind ≡ 0). omega (arith, c.operands_of.ensures, e)), ne_eqb _ 1 (λ (e : operands_of c.args.d.kind ≡ 1). omega (arith, c.operands_of.ensures, e)))
