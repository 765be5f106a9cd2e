-- A model's pair table, and refusals 24 and 25.
use Rattle.std.specs.Prelude.{◌≡◌, Bool, ◌||◌, List, [], ◌∷◌, map, ℕ, eqb, length, take, drop}
use Rattle.base.specs.Cases.{◌∣◌, ◌⇒◌}
use Rattle.base.specs.Rules.{Rule, ◌needs◌}
use Rattle.values.specs.Resolve.{standard_rows, entries, table_by, symmetric, associative}
use Rattle.blocks.specs.Records.{Model, model_of}
use Rattle.blocks.specs.Index.{table_at}

-- "A model may carry record kind 7 .. none, or nine records": the rows of its table, else the standard's
unfoldable pub rows_of : Model → List (List ℕ)
rows_of M = eqb (length M.rows) 0 ⇒ standard_rows ∣ map (λ d. d.codes) M.rows

-- "That table then replaces the standard's for all the model's logic signals."
unfoldable pub table_of : Model → List ℕ
table_of M = table_by (rows_of M)

-- "24, the table is not symmetric, after 20; 25, it is not associative, after 24": of a model that carries one
unfoldable pub symmetric_ok : Model → Bool
symmetric_ok M = eqb (length M.rows) 0 || symmetric (table_of M)

unfoldable pub associative_ok : Model → Bool
associative_ok M = eqb (length M.rows) 0 || associative (table_of M)

unfoldable pub table_rules : Model → List Rule
table_rules M =
    (24 needs symmetric_ok M)
    ∷ (25 needs associative_ok M)
    ∷ []

-- the entries of the index from table_at on are the model's table
pub record TableIn (m index : List ℕ) : Type 0 where
  pub table : take entries (drop table_at index) ≡ table_of (model_of m)
