-- The sign, then the two expressions; the record is stored last.
-- Assumes nothing.
use Rattle.simple.proofs.AssignLaws.{no_delay, found_drive}
use Rattle.simple.proofs.driven.Goals as goal

pub returns-in_err-f : goal.returns-in_err-f
returns-in_err-f c room = rw c.from_residual-in_err-f.ensures (no_delay c.in_ok-next.ensures c.in_ok-e.ensures c.in_err-f.ensures)

pub returns : goal.returns
returns c room = found_drive c.in_ok-next.ensures c.in_ok-e.ensures c.in_ok-f.ensures c.requires.3 c.put_record.ensures
