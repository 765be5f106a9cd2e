-- The rows of the relation, made one after the other. Assumes nothing.
use mathlib.Core.Path.{◌≡◌, refl, ◌∙◌}
use mathlib.Core.List.{List}
use Prim.Native.Nat.{ℕ, ◌+◌, ◌≤◌, ◌<◌}
use native.Mathlib.Omega.{arith}
use lib.ListN.{length, get_or, set, replicate, length-set}
use borrow.Author.Tests.{lt-ltb}
use Rattle.base.proofs.Below.{each_next}
use Rattle.sets.specs.Sets.{SetOf}
use Rattle.chains.specs.Rows.{meets_row, Related}

-- the first a rows are made
pub record Rowed (assigned waited : List ℕ) (P : ℕ) (rows : List ℕ) (a : ℕ) : Type 0 where
  pub most : a ≤ P
  pub size : length rows ≡ 16
  pub made : (i : ℕ) → i < a → SetOf (meets_row waited P (get_or assigned i 0)) (get_or rows i 0)

module _ (assigned waited : List ℕ) (P : ℕ) (few : P ≤ 16) where
  pub rows_none : Rowed assigned waited P (replicate 16 0) 0
  rows_none = record { most = omega arith; size = refl; made = λ i l. absurd (omega arith) }

  pub rows_next : (rows : List ℕ) (a row : ℕ) → a < P → Rowed assigned waited P rows a → SetOf (meets_row waited P (get_or assigned a 0)) row
      → Rowed assigned waited P (set rows a row) (a + 1)
  rows_next rows a row h m s =
      record {
        most = omega arith;
        size = length-set rows a row ∙ m.size;
        made = each_next (λ i x. SetOf (meets_row waited P (get_or assigned i 0)) x) rows a row (omega (arith, m.size)) m.made s;
      }

  pub rows_all : (rows : List ℕ) (a : ℕ) → P ≤ a → Rowed assigned waited P rows a → Related assigned waited P rows
  unfolding meets_row
  rows_all rows a g m = record { at = λ a b h l. (m.made a (omega arith)).at b (omega arith) ∙ rw (lt-ltb b P l) }
