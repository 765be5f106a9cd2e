-- The text of each of the three kinds. Assumes nothing.
use mathlib.Core.Path.{◌∙◌}
use Rattle.io.proofs.Counting.{prefix_len_of_le}
use Rattle.loop_text.proofs.TextLaws.{refused_text, none_text, chain_text, model_room_suffices}
use Rattle.loop_text.proofs.print.Goals as goal

pub returns-in-Err : goal.returns-in-Err
returns-in-Err c = record { prints = record { within = prefix_len_of_le _ _ c.put_refusal.ensures.upper_bound; text = c.put_refusal.ensures.out_after ∙ rw c.number.ensures (refused_text _ _ c.in-Err.ensures.check_is) }; model_room_suffices = model_room_suffices }

pub returns-in-Some : goal.returns-in-Some
returns-in-Some c = record { prints = record { within = prefix_len_of_le _ _ c.put_chain.ensures.upper_bound; text = c.put_chain.ensures.out_after ∙ chain_text _ _ c.in-Ok.ensures.check_is _ c.in-Some.is }; model_room_suffices = model_room_suffices }

pub returns-in-None : goal.returns-in-None
returns-in-None c = record { prints = record { within = prefix_len_of_le _ _ c.put_none.ensures.upper_bound; text = c.put_none.ensures.out_after ∙ none_text _ _ c.in-Ok.ensures.check_is c.in-None.is }; model_room_suffices = model_room_suffices }
