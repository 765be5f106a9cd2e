-- Three records, one after another.
-- Assumes nothing.
use Rattle.reader.proofs.Writing.{choice_put}
use Rattle.reader.proofs.put_choice.Goals as goal

pub returns : goal.returns
returns c = choice_put _ _ _ _ _ c.put_record.ensures c.put_record-2.ensures c.put_record-3.ensures
