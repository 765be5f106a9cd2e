use mathlib.Core.Path.{◌∙◌}
use native.Mathlib.Omega.{arith}
use Rattle.numerals.proofs.PutLaws.{putting_none, putting_next, putting_all, said}
use Rattle.text.proofs.PrintLaws.{line_at_lem, all_lines}
use Rattle.text.proofs.put_lines.Goals as goal

pub loop-i-init : goal.loop-i-init
loop-i-init c = putting_none _ _ _ _ _

pub byte-kind-requires : goal.byte-kind-requires
byte-kind-requires c = omega (arith, c.loop-i-test.true, c.requires.answers_len)

pub loop-i-preserved : goal.loop-i-preserved
loop-i-preserved c =
    putting_next c.loop-i.invariant c.loop-i-test.true c.put_line-at.auto.out c.put_line-at.ensures.upper_bound
    (said (line_at_lem c.args.orders.now c.args.answers.now _ c.byte-kind.ensures.value) c.put_line-at.ensures.puts)

pub returns : goal.returns
returns c =
    let inv = c.loop-i.invariant in
    let all = putting_all inv c.loop-i-test.false in record { upper_bound = omega (arith, all.0, inv.same, c.requires.answers_len_bound, c.requires.text_room_in_bounds); out_after = all.1.bytes (omega (arith, all.0, c.requires.answers_len_bound, c.requires.text_room_in_bounds)) ∙ all_lines c.args.orders.now c.args.answers.now c.requires.answers_len }
