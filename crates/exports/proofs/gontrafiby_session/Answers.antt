-- The session's contract, and its end configuration written out. Assumes nothing.
use Rattle.session.proofs.InTime.{ended_in_time}
use Rattle.exports.proofs.Words.{in_time}
use Rattle.exports.proofs.gontrafiby_session.Goals as goal

pub dump-requires : goal.dump-requires
dump-requires c = in_time _ _ c.session-r.ensures.session_is.end (ended_in_time _ _ _)

pub returns : goal.returns
returns c =
    let s = c.session-r.ensures.session_is in
    record { value = s.number; answers_after = s.buffer; words_after = rw (← s.end) c.dump.ensures }
