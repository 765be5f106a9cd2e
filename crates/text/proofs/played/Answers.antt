-- The number and the answers are the session's. Assumes nothing.
use Rattle.text.proofs.played.Goals as goal

pub returns : goal.returns
returns c = let is = c.session-ended.ensures.session_is in record { value = is.number; answers_after = is.buffer }
