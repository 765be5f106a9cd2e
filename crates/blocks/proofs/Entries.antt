-- The laws of entries behind the starts: writing one keeps the starts. Assumes nothing.
use mathlib.Core.List.{List}
use Prim.Native.Nat.{ℕ, ◌+◌, ◌*◌, ◌≤◌, ◌<◌}
use native.Mathlib.Omega.{arith}
use lib.Dec.{T, leb, lit≤}
use lib.ListN.{set}
use lib.Seq.{get_or-set_other}
use mir.Syntax.{w16, w64}
use mir.Val.{Fits}
use Rattle.blocks.specs.Index.{types_at, index_size, Starts}
use Rattle.blocks.proofs.Sections.{starts_kept}

-- entry n of a part of the index that begins at `base`: n is below a total, which is at most `most`
module _ (base most : ℕ) (s : T (leb (base + most) index_size)) (n k : ℕ) (h : n < k) (l : k ≤ most) where
  pub entry_place : base + n < index_size
  entry_place = let g : base + most ≤ index_size = lit≤ s in omega arith

  pub entry_fits : Fits w64 (base + n)
  entry_fits = omega (arith, entry_place)

  pub entry_scaled : Fits w64 ((base + n) * 2)
  entry_scaled = omega (arith, entry_place)

-- it lies behind the starts, and behind the types
pub past : (base : ℕ) → T (leb types_at base) → (n : ℕ) → types_at ≤ base + n
past base s n = let g : types_at ≤ base = lit≤ s in omega arith

pub value_fits : (b : ℕ) → T (leb b 64) → (v : ℕ) → v ≤ b → Fits w16 v
value_fits b s v h = let g : b ≤ 64 = lit≤ s in omega arith

module _ (m index : List ℕ) (i v : ℕ) where
  pub starts_set : types_at ≤ i → Starts m index → Starts m (set index i v)
  starts_set h s = starts_kept m index (set index i v) s (λ j l. get_or-set_other index i j v 0 (λ e. omega arith))
