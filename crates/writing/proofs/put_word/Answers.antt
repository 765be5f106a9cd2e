-- Two bytes, one behind the other.
-- Assumes nothing.
use Rattle.writing.proofs.WriteLaws.{word_stored}
use Rattle.writing.proofs.put_word.Goals as goal

pub returns : goal.returns
returns c = word_stored _ _ _ c.put.ensures c.put-2.ensures
