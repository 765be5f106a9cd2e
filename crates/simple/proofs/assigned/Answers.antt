-- The sign, then the expression; the record is stored last.
-- Assumes nothing.
use Rattle.simple.proofs.AssignLaws.{found_assign}
use Rattle.simple.proofs.assigned.Goals as goal

pub returns : goal.returns
returns c room = found_assign c.in_ok-next.ensures c.in_ok-e.ensures c.requires.3 c.put_record.ensures
