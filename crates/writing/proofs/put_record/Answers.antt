-- Six words, one behind the other.
-- Assumes nothing.
use Rattle.writing.proofs.WriteLaws.{six_words}
use Rattle.writing.proofs.put_record.Goals as goal

pub returns : goal.returns
returns c = six_words _ _ _ _ _ _ _ c.put_word.ensures c.put_word-2.ensures c.put_word-3.ensures c.put_word-4.ensures c.put_word-5.ensures c.put_word-6.ensures
