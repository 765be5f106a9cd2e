-- By the sign. Assumes nothing.
use native.Mathlib.Omega.{arith}
use Rattle.numerals.proofs.PutLaws.{behind}
use Rattle.text.proofs.TextLaws.{not_negative, negative}
use Rattle.text.proofs.put_signed.Goals as goal

pub returns-then-v-lt2147483648 : goal.returns-then-v-lt2147483648
returns-then-v-lt2147483648 c = record { upper_bound = omega (arith, c.put_number.ensures.upper_bound); puts = rw (not_negative _ c.if-v-lt2147483648.true) c.put_number.ensures.puts }

pub returns : goal.returns
returns c =
    let p = c.put_byte-digits.ensures in
    record { upper_bound = omega (arith, p.place, c.put_number-2.ensures.upper_bound); puts = rw (negative _ c.if-v-lt2147483648.false) (behind p c.put_byte-digits.auto.out c.put_number-2.ensures.puts) }
