-- The words are those of the check. Assumes nothing.
use Rattle.std.proofs.Common.{◌∙◌}
use Rattle.loop_exports.proofs.WordLaws.{chain_words, no_words, refused_words}
use Rattle.loop_exports.proofs.gontrafiby_loop.Goals as goal

pub returns-in-Err-clause-out_after : goal.returns-in-Err-clause-out_after
returns-in-Err-clause-out_after c = c.put_words.ensures ∙ refused_words _ _ c.in-Err.ensures.check_is

pub returns-in-Some-clause-out_after : goal.returns-in-Some-clause-out_after
returns-in-Some-clause-out_after c = c.put_words-in-Some.ensures ∙ chain_words _ _ c.in-Ok.ensures.check_is _ c.in-Some.is

pub returns-in-None-clause-out_after : goal.returns-in-None-clause-out_after
returns-in-None-clause-out_after c = c.put_words-in-None.ensures ∙ no_words _ _ c.in-Ok.ensures.check_is c.in-None.is
