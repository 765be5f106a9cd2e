-- Three texts, one behind the other. Assumes nothing.
use mathlib.Core.Path.{◌∙◌}
use native.Mathlib.Omega.{arith}
use Rattle.numerals.proofs.NumeralLaws.{decimal_short}
use Rattle.numerals.proofs.PutLaws.{behind, said}
use Rattle.vcd.proofs.ValueLaws.{time_line_lem}
use Rattle.vcd.proofs.put_time.Goals as goal

pub put_byte-requires : goal.put_byte-requires
put_byte-requires c = omega (arith, c.put_decimal-b.ensures.place, c.put_byte-a.ensures.place, decimal_short c.args.t)

pub returns : goal.returns
returns c =
    let t = c.args.t in
    let p = c.put_byte-a.ensures in
    let q = c.put_decimal-b.ensures in
    let r = c.put_byte.ensures in
    let k = c.put_byte-a.auto.out in
    record { upper_bound = omega (arith, p.place, q.place, r.place, decimal_short t); puts = said (time_line_lem t) (behind (behind p k q) (c.put_decimal-b.auto.out ∙ k) r) }
