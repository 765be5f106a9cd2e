-- The laws of rules 3 and 4 as the code works them out, of what was read of a block's head, and of the totals. Assumes nothing.
use mathlib.Core.Path.{◌≡◌, refl}
use mathlib.Core.Bool.{Bool, true, ◌&&◌, ◌||◌}
use mathlib.Core.List.{List}
use Prim.Native.Nat.{ℕ, ◌+◌, ◌-◌, ◌*◌}
use lib.Dec.{eqb, leb, ltb}
use Rattle.base.specs.Below.{every}
use Rattle.base.specs.Bytes.{ByteIs, WordIs}
use Rattle.base.proofs.Rules.{numbered}
use Rattle.blocks.specs.Blocks.{trailing_at, trailing_ok, head_ok}
use Rattle.blocks.specs.Records.{Model}
use Rattle.blocks.specs.Totals.{totals_ok, block_rules, TotalsOf}
use Rattle.blocks.specs.declared.index.Totals.{Totals}

module _ (m : List ℕ) (b : ℕ) where
  pub trailing_form : (i c x : ℕ) → ByteIs m (512 * b + 3) c → ByteIs m (512 * b + i) x → (ltb i (4 + 12 * c) || eqb x 0) ≡ trailing_at m b i
  unfolding trailing_at
  trailing_form i c x p q = rw (p.value, q.value)

  pub head_form :
      {kind number count p last : ℕ} {t : Bool} →
      ByteIs m (512 * b + 2) kind →
      WordIs m (512 * b) number →
      ByteIs m (512 * b + 3) count →
      p ≡ b - 1 →
      ByteIs m (512 * p + 2) last →
      t ≡ trailing_ok m b →
      (((((eqb number b && leb 1 kind) && leb kind 7) && leb count 42) && leb last kind) && t) ≡ head_ok m b
  unfolding head_ok every
  head_form k n c q l t = rw (n.value, k.value, c.value, l.value, q, t)

pub totals_form :
    (M : Model) (t : Totals) →
    TotalsOf M t →
    ((((((((leb t.signals 32 && leb t.variables 64) && leb 1 t.processes) && leb t.processes 16) && leb t.drivers 64) && leb t.nodes 400) && leb 1 t.statements) && leb t.statements 200) && (eqb t.rows 0 || eqb t.rows 9)) ≡ totals_ok M
unfolding totals_ok every
totals_form M t h = rw (h.signals, h.variables, h.processes, h.drivers, h.nodes, h.statements, h.rows)

pub blocks_numbered : (m : List ℕ) → numbered 4 (block_rules m) ≡ true
unfolding block_rules
blocks_numbered m = refl
