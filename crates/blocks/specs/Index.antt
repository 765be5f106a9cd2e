-- The index that a model is read by: for each record where it begins. Behind the starts it has room for a type of each node, a driver of
-- each statement and a pair table, which the rules above fill.
use Rattle.std.specs.Prelude.{◌≡◌, true, List, ◌++◌, ℕ, ◌+◌, ◌<◌, length, get_or, take, drop}
use Rattle.base.specs.Cases.{◌∣◌, ◌is◌⇒◌}
use Rattle.blocks.specs.Blocks.{heads_ok, starts_of, total_of}
use Rattle.blocks.specs.Records.{model_of}
use Rattle.blocks.specs.Totals.{totals_ok}

-- where the types of the nodes, the drivers of the statements and the pair table stand; and how many entries there are
abbrev pub types_at : ℕ
types_at = 785

abbrev pub assignments_at : ℕ
assignments_at = 1185

abbrev pub table_at : ℕ
table_at = 1385

abbrev pub index_size : ℕ
index_size = 1466

-- where the index keeps the starts of the records of kind k: 32 signals, 64 variables, 16 processes, 64 drivers, 400 nodes,
-- 200 statements and 9 rows
unfoldable pub section_of : ℕ → ℕ
section_of k =
    k is 1 ⇒ 0
    ∣ k is 2 ⇒ 32
    ∣ k is 3 ⇒ 96
    ∣ k is 4 ⇒ 112
    ∣ k is 5 ⇒ 176
    ∣ k is 6 ⇒ 576
    ∣ 776

-- xs written into a list from a place on
unfoldable pub placed : List ℕ → ℕ → List ℕ → List ℕ
placed before at xs = (take at before ++ xs) ++ drop (at + length xs) before

-- the blocks are sound, their totals within the limits, and the index says where each record begins
pub record Starts (m index : List ℕ) : Type 0 where
  pub heads : heads_ok m ≡ true
  pub totals : totals_ok (model_of m) ≡ true
  pub start : (k n : ℕ) → n < total_of k m → get_or index (section_of k + n) 0 ≡ get_or (starts_of k m) n 0
