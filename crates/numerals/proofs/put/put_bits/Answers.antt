-- Where the digits fit they are written over their part. Assumes nothing.
use mathlib.Core.Path.{◌≡◌, sym, ap, ◌∙◌}
use mathlib.Core.List.{List}
use Prim.Native.Nat.{ℕ, ◌+◌}
use native.Mathlib.Omega.{arith}
use lib.ListN.{length}
use Rattle.io.specs.Digits.{last_digits}
use Rattle.numerals.specs.Numerals.{numeral, binary_of}
use Rattle.numerals.proofs.NumeralLaws.{binary_length, binary_short}
use Rattle.numerals.proofs.PutLaws.{held, counted, part_length}
use Rattle.numerals.proofs.put.put_bits.Goals as goal

places : (c : goal.After-binary_places-k) → c.binary_places-k.result ≡ length (binary_of c.args.x)
places c = c.binary_places-k.ensures ∙ sym (binary_length c.args.x)

pub overflow_add-end : goal.overflow_add-end
overflow_add-end c = omega (arith, places c, binary_short c.args.x)

places_2 : (c : goal.After-slice_known-then-end-out-1) → c.binary_places-k.result ≡ length (binary_of c.args.x)
places_2 c = c.binary_places-k.ensures ∙ sym (binary_length c.args.x)

-- the last digits, as many as there are
written : (x n : ℕ) {last : List ℕ} → n ≡ length (binary_of x) → last ≡ last_digits 2 n x → last ≡ binary_of x
unfolding binary_of numeral
written x n e h = h ∙ rw (e, binary_length x)

pub returns-then-end-out : goal.returns-then-end-out
returns-then-end-out c =
    let x = c.args.x in
    let old = c.args.out.now in
    let at = c.args.at in
    let fits = c.if-end-out.true in
    let end = ap (λ n. at + n) (places_2 c) in
    held (binary_of x) old _ at _ end fits
    (written x _ (part_length (binary_of x) old at _ end fits) c.put_binary.ensures)

places_3 : (c : goal.Else-end-out) → c.binary_places-k.result ≡ length (binary_of c.args.x)
places_3 c = c.binary_places-k.ensures ∙ sym (binary_length c.args.x)

pub returns-else-end-out : goal.returns-else-end-out
returns-else-end-out c = counted _ _ _ _ (ap (λ n. c.args.at + n) (places_3 c)) c.if-end-out.false
