use mathlib.Core.Path.{refl}
use native.Mathlib.Omega.{arith}
use borrow.Author.Rules.{rules}
use Rattle.cycle.proofs.Arrays.{filled_none, filled_more, filled_all}
use Rattle.dumps.proofs.put_values.Goals as goal

pub loop-s-init : goal.loop-s-init
loop-s-init c = search (rules, filled_none)

pub loop-s-preserved : goal.loop-s-preserved
loop-s-preserved c = (omega (arith, c.loop-s-test.true), filled_more _ _ _ _ _ (omega (arith, c.loop-s-test.true, c.requires.n_bound)) refl c.loop-s.invariant.1)

pub returns : goal.returns
returns c = search (rules, filled_all)
