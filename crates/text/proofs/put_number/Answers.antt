-- The digits, and the character behind them. Assumes nothing.
use native.Mathlib.Omega.{arith}
use Rattle.numerals.proofs.NumeralLaws.{decimal_short}
use Rattle.numerals.proofs.PutLaws.{behind}
use Rattle.text.proofs.put_number.Goals as goal

pub put_byte-requires : goal.put_byte-requires
put_byte-requires c = omega (arith, c.put_decimal-end.ensures.place, decimal_short c.args.n)

pub returns : goal.returns
returns c =
    let p = c.put_decimal-end.ensures in
    let q = c.put_byte.ensures in
    record { upper_bound = omega (arith, p.place, q.place, decimal_short c.args.n); puts = behind p c.put_decimal-end.auto.out q }
