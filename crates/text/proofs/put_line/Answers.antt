-- Each text stands behind those before it. Assumes nothing.
use mathlib.Core.Path.{◌≡◌, ◌∙◌}
use mathlib.Core.List.{List}
use native.Mathlib.Omega.{arith}
use Prim.Native.Nat.{ℕ, ◌+◌, ◌≤◌, ◌<◌}
use lib.ListN.{length}
use Rattle.numerals.proofs.PutLaws.{behind, said}
use Rattle.text.specs.Text.{columns, line_of, line_most}
use Rattle.text.proofs.TextLaws.{columns_most, columns_line}
use Rattle.text.proofs.put_line.Goals as goal

-- the place behind each text
first : (c : goal.After-put_number-arg-2-1) → c.put_number-a.result ≤ c.args.at + 21
first c = c.put_number-a.ensures.upper_bound

pub put_number-b-requires : goal.put_number-b-requires
put_number-b-requires c = omega (arith, first c, c.requires.at_le_text_room)

-- the place behind each text
first_2 : (c : goal.After-put_number-arg-3-1) → c.put_number-a.result ≤ c.args.at + 21
first_2 c = c.put_number-a.ensures.upper_bound

second : (c : goal.After-put_number-arg-3-1) → c.put_number-b.result ≤ c.args.at + 42
second c = omega (arith, first_2 c, c.put_number-b.ensures.upper_bound)

pub put_number-c-requires : goal.put_number-c-requires
put_number-c-requires c = omega (arith, second c, c.requires.at_le_text_room)

-- the start, and the six numbers
value-small : (c : goal.After-put_signed-arg-1) → c.value_in-value.result < 4294967296
value-small c = c.value_in-value.ensures.upper_bound

-- the place behind each text
first_3 : (c : goal.After-put_signed-arg-1) → c.put_number-a.result ≤ c.args.at + 21
first_3 c = c.put_number-a.ensures.upper_bound

second_2 : (c : goal.After-put_signed-arg-1) → c.put_number-b.result ≤ c.args.at + 42
second_2 c = omega (arith, first_3 c, c.put_number-b.ensures.upper_bound)

third : (c : goal.After-put_signed-arg-1) → c.put_number-c.result ≤ c.args.at + 63
third c = omega (arith, second_2 c, c.put_number-c.ensures.upper_bound)

pub put_signed-d-requires : goal.put_signed-d-requires
put_signed-d-requires c = record { v_bound = value-small c; at_bound = omega (arith, third c, c.requires.at_le_text_room) }

-- the place behind each text
first_4 : (c : goal.After-put_number-arg-4-1) → c.put_number-a.result ≤ c.args.at + 21
first_4 c = c.put_number-a.ensures.upper_bound

second_3 : (c : goal.After-put_number-arg-4-1) → c.put_number-b.result ≤ c.args.at + 42
second_3 c = omega (arith, first_4 c, c.put_number-b.ensures.upper_bound)

third_2 : (c : goal.After-put_number-arg-4-1) → c.put_number-c.result ≤ c.args.at + 63
third_2 c = omega (arith, second_3 c, c.put_number-c.ensures.upper_bound)

fourth : (c : goal.After-put_number-arg-4-1) → c.put_signed-d.result ≤ c.args.at + 85
fourth c = omega (arith, third_2 c, c.put_signed-d.ensures.upper_bound)

pub put_number-e-requires : goal.put_number-e-requires
put_number-e-requires c = omega (arith, fourth c, c.requires.at_le_text_room)

-- the place behind each text
first_5 : (c : goal.After-put_number-arg-5-1) → c.put_number-a.result ≤ c.args.at + 21
first_5 c = c.put_number-a.ensures.upper_bound

second_4 : (c : goal.After-put_number-arg-5-1) → c.put_number-b.result ≤ c.args.at + 42
second_4 c = omega (arith, first_5 c, c.put_number-b.ensures.upper_bound)

third_3 : (c : goal.After-put_number-arg-5-1) → c.put_number-c.result ≤ c.args.at + 63
third_3 c = omega (arith, second_4 c, c.put_number-c.ensures.upper_bound)

fourth_2 : (c : goal.After-put_number-arg-5-1) → c.put_signed-d.result ≤ c.args.at + 85
fourth_2 c = omega (arith, third_3 c, c.put_signed-d.ensures.upper_bound)

fifth : (c : goal.After-put_number-arg-5-1) → c.put_number-e.result ≤ c.args.at + 106
fifth c = omega (arith, fourth_2 c, c.put_number-e.ensures.upper_bound)

pub put_number-requires : goal.put_number-requires
put_number-requires c = omega (arith, fifth c, c.requires.at_le_text_room)

abbrev texts : (c : goal.After-slice_known-7-1) → List ℕ
texts c = columns c.byte-refusal.result c.byte-said.result c.word-picks.result c.value_in-value.result c.node_in-node.result c.time_in-time.result

-- the start, and the six numbers
value-small_2 : (c : goal.After-slice_known-7-1) → c.value_in-value.result < 4294967296
value-small_2 c = c.value_in-value.ensures.upper_bound

short : (c : goal.After-slice_known-7-1) → length (texts c) ≤ line_most
short c =
    columns_most _ _ _ _ _ _
    c.byte-refusal.ensures.small
    c.byte-said.ensures.small
    c.word-picks.ensures.small
    (value-small_2 c)
    c.node_in-node.ensures.upper_bound
    (omega arith)

line : (c : goal.After-slice_known-7-1) → (texts c) ≡ line_of c.args.kind c.args.answer.now
line c =
    columns_line c.args.kind c.args.answer.now
    c.byte-refusal.ensures.value
    c.byte-said.ensures.value
    c.word-picks.ensures.value
    c.value_in-value.ensures.value
    c.node_in-node.ensures.value
    c.time_in-time.ensures

pub returns : goal.returns
returns c =
    let k1 = c.put_number-a.auto.out in
    let k2 = c.put_number-b.auto.out ∙ k1 in
    let k3 = c.put_number-c.auto.out ∙ k2 in
    let k4 = c.put_signed-d.auto.out ∙ k3 in
    let numbers = behind (behind c.put_number-a.ensures.puts k1 c.put_number-b.ensures.puts) k2 c.put_number-c.ensures.puts in
    let w = behind (behind (behind numbers k3 c.put_signed-d.ensures.puts) k4 c.put_number-e.ensures.puts) (c.put_number-e.auto.out ∙ k4) c.put_number.ensures.puts in
    record { upper_bound = omega (arith, w.place, short c); puts = said (line c) w }
