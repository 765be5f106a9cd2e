-- `delta_refusal`: each test is the next line of `delta_refusal`. Assumes nothing.
use borrow.Author.Tests.{eq-eqb, ne_eqb, le-leb, lt-leb}
use Rattle.std.proofs.lemmas.Result.{err_from_is_err_and}
use Rattle.due.specs.Due.{delta_refusal}
use Rattle.due.proofs.Standings.{past}
use Rattle.due.proofs.delta_refusal.Goals as goal

pub returns-in_err-standing_refusal : goal.returns-in_err-standing_refusal
unfolding delta_refusal
returns-in_err-standing_refusal c =
    let p = err_from_is_err_and c.from_residual.result c.from_residual.ensures.1 in
    rw (p.1, p.2) (c.in_err-standing_refusal.ensures _)

pub returns-then-t-time : goal.returns-then-t-time
unfolding delta_refusal
returns-then-t-time c = past (c.in_ok-standing_refusal.ensures _) (rw (ne_eqb _ _ c.if-t-time.true))

pub returns-then-deltas-ge-DELTA_LIMIT : goal.returns-then-deltas-ge-DELTA_LIMIT
unfolding delta_refusal
returns-then-deltas-ge-DELTA_LIMIT c = past (c.in_ok-standing_refusal.ensures _) (rw (eq-eqb _ _ c.if-t-time.false, le-leb 1000 _ c.if-deltas-ge-DELTA_LIMIT.true))

pub returns : goal.returns
unfolding delta_refusal
returns c = past (c.in_ok-standing_refusal.ensures _) (rw (eq-eqb _ _ c.if-t-time.false, lt-leb 1000 _ c.if-deltas-ge-DELTA_LIMIT.false))
