-- Laws of signed numbers, and of a line of six columns. Assumes nothing.
use mathlib.Core.Path.{◌≡◌}
use mathlib.Core.Logic.{⊎_elim}
use mathlib.Core.List.{List, ◌∷◌}
use Prim.Native.Nat.{ℕ, ◌-◌, ◌≤◌, ◌<◌}
use native.Mathlib.Omega.{arith}
use borrow.Author.Tests.{lt-ltb, le-ltb}
use lib.ListN.{length, length-append}
use Rattle.base.specs.Bytes.{byte_at, word_at}
use Rattle.base.proofs.Below.{split}
use Rattle.session.specs.Lists.{time_in}
use Rattle.numerals.specs.Numerals.{decimal_of}
use Rattle.numerals.proofs.NumeralLaws.{decimal_most}
use Rattle.text.specs.Text.{minus, signed_of, value_in, node_in, columns, line_of, line_most}

-- signed numbers
pub not_negative : (v : ℕ) → v < 2147483648 → signed_of v ≡ decimal_of v
unfolding signed_of
not_negative v h = rw (lt-ltb _ _ h)

pub negative : (v : ℕ) → 2147483648 ≤ v → signed_of v ≡ minus ∷ decimal_of (4294967296 - v)
unfolding signed_of
negative v h = rw (le-ltb _ _ h)

pub signed_most : (v : ℕ) → v < 4294967296 → length (signed_of v) ≤ 11
signed_most v h =
    ⊎_elim
    (λ (l : v < 2147483648). rw (not_negative v l) (omega (arith, decimal_most v 9 (omega arith))))
    (λ (l : 2147483648 ≤ v). rw (negative v l) (omega (arith, decimal_most (4294967296 - v) 9 (omega arith))))
    (split v 2147483648)

-- a line of six columns: its length, and that it is an answer's
pub columns_most : (x y z v n t : ℕ) → x < 256 → y < 256 → z < 65536 → v < 4294967296 → n < 65536 → t < 18446744073709551616 → length (columns x y z v n t) ≤ line_most
columns_most x y z v n t a b c d e f =
    simp length-append
    (omega (arith, decimal_most x 2 (omega arith), decimal_most y 2 (omega arith), decimal_most z 4 (omega arith), signed_most v d, decimal_most n 4 (omega arith), decimal_most t 19 (omega arith)))

pub columns_line : (kind : ℕ) (a : List ℕ) {x y z v n t : ℕ} → x ≡ byte_at a 0 → y ≡ byte_at a 1 → z ≡ word_at a 2 → v ≡ value_in kind a → n ≡ node_in kind a → t ≡ time_in a
    → columns x y z v n t ≡ line_of kind a
unfolding line_of
columns_line kind a e f g h i j = rw (e, f, g, h, i, j)
