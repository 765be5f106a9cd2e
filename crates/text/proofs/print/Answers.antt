-- The answers have their room, and so has the text. Assumes nothing.
use native.Mathlib.Omega.{arith}
use mathlib.Core.Path.{sym, ◌∙◌}
use borrow.Author.Rules.{rules}
use mathlib.Core.Path.{◌≡◌}
use lib.ListN.{length, take}
use Rattle.io.proofs.Counting.{prefix_len_of_le, length-take_of_le}
use Rattle.text.proofs.PrintLaws.{rooms_suffice}
use Rattle.text.proofs.print.Goals as goal

pub slice_bounds-put_text-end : goal.slice_bounds-put_text-end
slice_bounds-put_text-end c = length-take_of_le _ _ (search rules)

pub put_text-requires : goal.put_text-requires
put_text-requires c =
    let n : c.answer_bytes-n.result ≡ length (take c.answer_bytes-n.result c.large_buffer-answers.result) = length-take_of_le _ _ (search rules) in
    let room = c.answer_bytes-n.ensures in
    record { answer_room = record { most = omega (arith, n, room.most); all = λ few. sym n ∙ room.all few }; text_room_in_bounds = omega arith }

pub returns : goal.returns
returns c = record { prints = record { within = prefix_len_of_le _ _ c.put_text.ensures.upper_bound; text = c.put_text.ensures.out_after }; rooms_suffice = rooms_suffice }
