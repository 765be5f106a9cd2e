-- The arm that was taken names the byte. Assumes nothing.
use native.Mathlib.Omega.{arith}
use borrow.Author.Tests.{ne_eqb}
use Rattle.packing.specs.Packed.{block_byte}
use Rattle.packing.specs.Packed.{Page}
use mathlib.Core.Path.{◌≡◌}
use Prim.Native.Nat.{ℕ, ◌-◌}
use Rattle.base.specs.Bytes.{byte_at}
use Rattle.packing.proofs.block_byte.Goals as goal

record_byte : (b : ℕ) (p : Page) (i : ℕ) → (i ≡ 0 → ⊥) → (i ≡ 1 → ⊥) → (i ≡ 2 → ⊥) → (i ≡ 3 → ⊥) → block_byte b p i ≡ byte_at p.bytes (i - 4)
unfolding block_byte
record_byte b p i w x y z = rw (ne_eqb i 0 w, ne_eqb i 1 x, ne_eqb i 2 y, ne_eqb i 3 z)

pub returns-in-0 : goal.returns-in-0
unfolding block_byte
returns-in-0 c = (rw c.in-0.is, omega arith)

pub returns-in-1 : goal.returns-in-1
unfolding block_byte
returns-in-1 c = (rw c.in-1.is, omega arith)

pub returns-in-2 : goal.returns-in-2
unfolding block_byte
returns-in-2 c = (rw c.in-2.is, omega arith)

pub returns-in-3 : goal.returns-in-3
unfolding block_byte
returns-in-3 c = (rw c.in-3.is, omega arith)

pub returns-in_default : goal.returns-in_default
returns-in_default c = (rw (record_byte _ _ c.args.i (λ e. omega (arith, e)) (λ e. omega (arith, e)) (λ e. omega (arith, e)) (λ e. omega (arith, e))) c.byte_or_zero.ensures.value, c.byte_or_zero.ensures.small)
