-- `time_refusal`: each test is the next line of `time_refusal`. Assumes nothing.
use borrow.Author.Tests.{eq-eqb, ne_eqb, lt-ltb, le-ltb}
use Rattle.std.proofs.lemmas.Result.{err_from_is_err_and}
use Rattle.due.specs.Due.{time_refusal}
use Rattle.due.proofs.Standings.{past}
use Rattle.due.proofs.time_refusal.Goals as goal

pub returns-in_err-standing_refusal : goal.returns-in_err-standing_refusal
unfolding time_refusal
returns-in_err-standing_refusal c =
    let p = err_from_is_err_and c.from_residual.result c.from_residual.ensures.1 in
    rw (p.1, p.2) (c.in_err-standing_refusal.ensures _)

pub returns-then-t-time : goal.returns-then-t-time
unfolding time_refusal
returns-then-t-time c = past (c.in_ok-standing_refusal.ensures _) (rw (eq-eqb _ _ c.if-t-time.true))

pub returns-then-t-eq-NEVER : goal.returns-then-t-eq-NEVER
unfolding time_refusal
returns-then-t-eq-NEVER c = past (c.in_ok-standing_refusal.ensures _) (rw (ne_eqb _ _ c.if-t-time.false, eq-eqb _ _ c.if-t-eq-NEVER.true))

pub returns-then-t-gt-LAST_TIME : goal.returns-then-t-gt-LAST_TIME
unfolding time_refusal
returns-then-t-gt-LAST_TIME c = past (c.in_ok-standing_refusal.ensures _) (rw (ne_eqb _ _ c.if-t-time.false, ne_eqb _ _ c.if-t-eq-NEVER.false, lt-ltb _ _ c.if-t-gt-LAST_TIME.true))

pub returns : goal.returns
unfolding time_refusal
returns c = past (c.in_ok-standing_refusal.ensures _) (rw (ne_eqb _ _ c.if-t-time.false, ne_eqb _ _ c.if-t-eq-NEVER.false, le-ltb _ _ c.if-t-gt-LAST_TIME.false))
