-- The line of a logic value is one text; that of an integer is three, one behind the other. Assumes nothing.
use mathlib.Core.Path.{◌∙◌}
use native.Mathlib.Omega.{arith}
use Rattle.numerals.proofs.NumeralLaws.{binary_short}
use Rattle.numerals.proofs.PutLaws.{behind, said}
use Rattle.vcd.proofs.ValueLaws.{integer_line, logic_line}
use Rattle.vcd.proofs.put_value.Goals as goal

pub returns-then-ty-ne0 : goal.returns-then-ty-ne0
returns-then-ty-ne0 c =
    let done = c.put.ensures in
    record { upper_bound = omega (arith, done.place); puts = said (logic_line _ _ _ _ c.if-ty-ne0.true c.character.ensures) done }

pub put-requires-2 : goal.put-requires-2
put-requires-2 c = omega (arith, c.put_bits-b.ensures.place, c.put_byte-a.ensures.place, binary_short c.args.v)

pub returns : goal.returns
returns c =
    let p = c.put_byte-a.ensures in
    let q = c.put_bits-b.ensures in
    let r = c.put-2.ensures in
    let k = c.put_byte-a.auto.out in record { upper_bound = omega (arith, p.place, q.place, r.place, binary_short c.args.v); puts = said (integer_line _ _ _ c.if-ty-ne0.false) (behind (behind p k q) (c.put_bits-b.auto.out ∙ k) r) }
