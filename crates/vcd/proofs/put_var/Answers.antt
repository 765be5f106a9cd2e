-- Five texts, one behind the other. Assumes nothing.
use mathlib.Core.Path.{◌∙◌}
use Prim.Native.Nat.{◌+◌, ◌≤◌}
use native.Mathlib.Omega.{arith}
use lib.ListN.{length}
use Rattle.numerals.specs.Numerals.{decimal_of}
use Rattle.numerals.proofs.NumeralLaws.{decimal_most}
use Rattle.numerals.proofs.PutLaws.{behind, said}
use Rattle.vcd.proofs.ValueLaws.{var_line_lem, width_most}
use Rattle.vcd.proofs.put_var.Goals as goal

-- up to the width
upto : (c : goal.After-put-arg-4-1) → c.put_decimal-b.result ≤ c.args.at + 12
upto c = omega (arith, c.put_decimal-b.ensures.place, c.put-a.ensures.place, width_most c.args.ty _ c.width.ensures)

pub put-c-requires : goal.put-c-requires
put-c-requires c = omega (arith, upto c)

-- up to the width
upto_2 : (c : goal.After-put_decimal-arg-2-1) → c.put_decimal-b.result ≤ c.args.at + 12
upto_2 c = omega (arith, c.put_decimal-b.ensures.place, c.put-a.ensures.place, width_most c.args.ty _ c.width.ensures)

pub put_decimal-d-requires : goal.put_decimal-d-requires
put_decimal-d-requires c = omega (arith, c.put-c.ensures.place, upto_2 c)

-- up to the width
upto_3 : (c : goal.After-put-arg-7-1) → c.put_decimal-b.result ≤ c.args.at + 12
upto_3 c = omega (arith, c.put_decimal-b.ensures.place, c.put-a.ensures.place, width_most c.args.ty _ c.width.ensures)

pub put-requires : goal.put-requires
put-requires c =
    let few : length (decimal_of c.args.n) ≤ 2 = decimal_most c.args.n 1 (omega (arith, c.requires.n_bound)) in
    omega (arith, c.put_decimal-d.ensures.place, c.put-c.ensures.place, upto_3 c, few, c.requires.var_most_bound)

-- up to the width
upto_4 : (c : goal.After-slice_known-6-1) → c.put_decimal-b.result ≤ c.args.at + 12
upto_4 c = omega (arith, c.put_decimal-b.ensures.place, c.put-a.ensures.place, width_most c.args.ty _ c.width.ensures)

pub returns : goal.returns
returns c =
    let n = c.args.n in
    let k = c.put-a.auto.out in
    let l = c.put_decimal-b.auto.out ∙ k in
    let m = c.put-c.auto.out ∙ l in
    let all = behind (behind (behind (behind c.put-a.ensures k c.put_decimal-b.ensures) l c.put-c.ensures) m c.put_decimal-d.ensures) (c.put_decimal-d.auto.out ∙ m) c.put.ensures in record { upper_bound = omega (arith, upto_4 c, c.put-c.ensures.place, c.put_decimal-d.ensures.place, c.put.ensures.place, decimal_most n 1 (omega (arith, c.requires.n_bound))); puts = said (var_line_lem _ n c.width.ensures) all }
