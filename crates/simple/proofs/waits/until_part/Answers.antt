-- The word `until` decides, then its expression; the rest is that of `time_part`.
-- Assumes nothing.
use Rattle.simple.proofs.WaitLaws.{without_until, no_time_after, with_condition}
use Rattle.simple.proofs.waits.until_part.Goals as goal

pub returns-in_default : goal.returns-in_default
returns-in_default c = without_until _ _ c.in_default.ensures c.in_ok-f.ensures

pub returns-in_err-f-2 : goal.returns-in_err-f-2
returns-in_err-f-2 c = rw c.from_residual-in_err-f-2.ensures (no_time_after c.in-Some.ensures c.in_ok-e.ensures c.in_err-f-2.ensures)

pub returns : goal.returns
returns c = with_condition c.in-Some.ensures c.in_ok-e.ensures c.requires.1 c.in_ok-f-2.ensures
