-- The number, its range and the bracket decide, in that order.
-- Assumes nothing.
use native.Mathlib.Omega.{arith}
use Rattle.phrases.proofs.Operands.{no_delay_number, no_delay_range, no_delay_bracket, delay_leaf}
use Rattle.phrases.proofs.delay.Goals as goal

pub returns-in_default : goal.returns-in_default
returns-in_default c = no_delay_number _ c.token-found.ensures c.in_default.not-Number

pub returns-then-k-gt31 : goal.returns-then-k-gt31
returns-then-k-gt31 c = no_delay_range _ c.token-found.ensures _ c.in-Number.is c.if-k-gt31.true

pub returns-in_err-next : goal.returns-in_err-next
returns-in_err-next c = rw c.from_residual.ensures (no_delay_bracket _ c.token-found.ensures _ c.in-Number.is c.in_err-next.ensures)

pub returns : goal.returns
returns c =
    let w = c.in_ok-next.ensures in
    (delay_leaf _ c.token-found.ensures _ c.in-Number.is c.if-k-gt31.false c.requires.1 w, omega (arith, c.token-found.ensures.within, w.within), w.within.1)
