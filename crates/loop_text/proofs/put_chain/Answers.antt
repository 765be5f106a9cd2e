-- Three texts, one behind the other, and room for them. Assumes nothing.
use mathlib.Core.Path.{refl}
use native.Mathlib.Omega.{arith}
use Rattle.numerals.proofs.PutLaws.{behind}
use Rattle.loop_text.proofs.TextLaws.{line_room}
use Rattle.loop_text.proofs.put_chain.Goals as goal

pub put_processes-b-requires : goal.put_processes-b-requires
put_processes-b-requires c = record { chain_len = c.requires.chain_len; at_le_loop_room = omega (arith, c.put-a.ensures.place) }

pub put_byte-requires : goal.put_byte-requires
put_byte-requires c = omega (arith, line_room _ _ _ _ c.requires.chain_len c.put-a.ensures.place c.put_processes-b.ensures.upper_bound refl)

pub returns : goal.returns
returns c =
    let p = c.put-a.ensures in
    let r = c.put_byte.ensures in
    let k = c.put-a.auto.out in
    let room = line_room _ _ _ _ c.requires.chain_len p.place c.put_processes-b.ensures.upper_bound r.place in
    let whole = behind p k (behind c.put_processes-b.ensures.puts c.put_processes-b.auto.out r) in
    record { upper_bound = omega (arith, room, c.requires.loop_room_in_bounds, c.put_byte.auto.out, c.put_processes-b.auto.out, k); out_after = whole.bytes (omega (arith, room, c.requires.loop_room_in_bounds)) }
