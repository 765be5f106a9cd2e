-- Arrays that a loop fills from the front, one entry a turn. Assumes nothing.
use mathlib.Core.Path.{◌≡◌, ◌∙◌}
use mathlib.Core.List.{List}
use Prim.Native.Nat.{ℕ, ◌+◌, ◌≤◌, ◌<◌}
use native.Mathlib.Omega.{arith}
use borrow.Author.Count.{below_none, below_more}
use lib.ListN.{length, get_or, set, length-set}
use lib.Seq.{get_or-set_same, get_or-set_other}
use Rattle.cycle.specs.Arrays.{EntriesAre}

-- the first i entries are filled, of an array of k
pub record Filled (f : ℕ → ℕ) (k i : ℕ) (xs : List ℕ) : Type 0 where
  pub long : length xs ≡ k
  pub has : EntriesAre f i xs

module _ (f : ℕ → ℕ) (k : ℕ) where
  pub filled_none : (xs : List ℕ) → length xs ≡ k → Filled f k 0 xs
  filled_none xs h = record { long = h; has = record { at = below_none _ } }

  -- one turn more
  pub filled_more : (xs : List ℕ) (i v : ℕ) → i < k → v ≡ f i → Filled f k i xs → Filled f k (i + 1) (set xs i v)
  filled_more xs i v h e l =
      record {
        long = length-set xs i v ∙ l.long;
        has = record {
          at = below_more (λ j. get_or (set xs i v) j 0 ≡ f j) i
              (λ j m. get_or-set_other xs i j v 0 (λ e. omega arith) ∙ l.has.at j m)
              (get_or-set_same xs i v 0 (omega (arith, l.long)) ∙ e);
        };
      }

  -- all turns are done
  pub filled_all : (xs : List ℕ) (i n : ℕ) → n ≤ i → Filled f k i xs → EntriesAre f n xs
  filled_all xs i n h l = record { at = λ j m. l.has.at j (omega arith) }
