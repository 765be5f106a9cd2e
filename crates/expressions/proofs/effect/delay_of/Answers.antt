-- `delay_of`: by the delay. Assumes nothing.
use Prim.Native.Nat.{◌<◌}
use borrow.Author.Rules.{rules}
use Rattle.std.proofs.lemmas.Result.{err_from_is_err_and}
use Rattle.rules.specs.Statements.{with_delay}
use Rattle.expressions.proofs.Statements.{delay_negative, delay_kept}
use Rattle.expressions.proofs.effect.delay_of.Goals as goal

pub returns-in_err-d : goal.returns-in_err-d
unfolding with_delay
returns-in_err-d c next = let p = err_from_is_err_and c.from_residual.result c.from_residual.ensures.1 in rw (p.1, p.2, c.in_err-d.was)

pub returns-then-int-lt0 : goal.returns-then-int-lt0
returns-then-int-lt0 c next = let l : c.in_ok-d.d < 4294967296 = search rules in delay_negative next c.in_ok-d.was l c.int.ensures c.if-int-lt0.true

pub returns : goal.returns
returns c next = let l : c.in_ok-d.d < 4294967296 = search rules in delay_kept next c.in_ok-d.was l c.int.ensures c.if-int-lt0.false
