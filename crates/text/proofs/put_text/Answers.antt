-- What is written is the text by the laws of a session's text: its number, or the lines of the answers. Assumes nothing.
use mathlib.Core.Path.{◌∙◌}
use native.Mathlib.Omega.{arith}
use Rattle.text.proofs.PrintLaws.{line_room, played_room, refused_writes, played_writes}
use Rattle.text.proofs.put_text.Goals as goal

pub put_refusal-requires : goal.put_refusal-requires
put_refusal-requires c = line_room _ c.requires.text_room_in_bounds

pub returns-then-number-ne0 : goal.returns-then-number-ne0
returns-then-number-ne0 c = record { upper_bound = c.put_refusal.ensures.upper_bound; out_after = c.put_refusal.ensures.out_after ∙ refused_writes _ _ _ c.requires.answer_room.all c.played-number.ensures.value c.if-number-ne0.true }

pub put_lines-requires : goal.put_lines-requires
put_lines-requires c =
    let kept = c.played-number.auto.answers in
    record { answers_len = kept ∙ played_room _ _ _ c.requires.answer_room.all c.played-number.ensures.value c.if-number-ne0.false; answers_len_bound = omega (arith, kept, c.requires.answer_room.most); text_room_in_bounds = c.requires.text_room_in_bounds }

pub returns : goal.returns
returns c = record { upper_bound = c.put_lines.ensures.upper_bound; out_after = c.put_lines.ensures.out_after ∙ played_writes _ _ _ c.requires.answer_room.all c.played-number.ensures.value c.played-number.ensures.answers_after c.if-number-ne0.false }
