-- An expression, and then the word.
-- Assumes nothing.
use Rattle.phrases.proofs.PhraseLaws.{no_word_after}
use Rattle.phrases.proofs.phrase.Goals as goal

pub returns-in_err-next : goal.returns-in_err-next
returns-in_err-next c = rw c.from_residual-in_err-next.ensures (no_word_after c.in_ok-e.ensures c.in_err-next.ensures)
