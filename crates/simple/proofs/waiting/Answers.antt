-- The word `on` decides, then its signals and the other parts; the record is stored last.
-- Assumes nothing.
use Rattle.simple.proofs.AssignLaws.{no_signals, no_rest, found_on, found_without_on}
use Rattle.simple.proofs.waiting.Goals as goal

pub returns-in_default : goal.returns-in_default
returns-in_default c room = found_without_on c.in_ok-u.ensures c.requires.3 (rw (c.unwrap_or-condition.ensures, c.unwrap_or-time.ensures) at c.put_record.ensures)

pub returns-in_err-s : goal.returns-in_err-s
returns-in_err-s c room = rw c.from_residual-in_err-s.ensures (no_signals c.in-Some.ensures c.in_err-s.ensures)

pub returns-in_err-u-2 : goal.returns-in_err-u-2
returns-in_err-u-2 c room = rw c.from_residual-in_err-u-2.ensures (no_rest c.in-Some.ensures c.in_ok-s.ensures c.in_err-u-2.ensures)

pub returns : goal.returns
returns c room = found_on c.in-Some.ensures c.in_ok-s.ensures c.in_ok-u-2.ensures c.requires.3 (rw (c.unwrap_or-condition-2.ensures, c.unwrap_or-time-2.ensures) at c.put_record-2.ensures)
