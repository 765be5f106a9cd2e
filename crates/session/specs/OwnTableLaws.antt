-- Laws of a model's own pair table (document 02, item 10), whose definition is `table_of` (`tables/specs/Tables`).
use Rattle.std.specs.Prelude.{◌≡◌, List, [], ◌∷◌, map, ℕ, ◌<◌, length, get_or}
use Rattle.values.specs.Nine.{Z}
use Rattle.values.specs.Resolve.{standard, pair_in}
use Rattle.blocks.specs.Records.{bus, Model, model_of, signal_at, row_at}
use Rattle.tables.specs.Tables.{table_of}
use Rattle.model.specs.Rules.{refusal_of}
use Rattle.rules.specs.Configuration.{Configuration, driving_of, resolved_or}
use Rattle.rules.specs.Steps.{taken, value_after}
use Rattle.rules.specs.Numberings.{OneValue}

pub record OwnTableLaws : Type 0 where
  -- without records of kind 7 the pair table is the standard's, so that what a model gives is what it gave
  pub unaltered : (M : Model) → length M.rows ≡ 0 → table_of M ≡ standard
  -- with nine, what it has in the row of x and the column of y is code y of record x
  pub own : (M : Model) → length M.rows ≡ 9 → (x y : ℕ) → x < 9 → y < 9 → pair_in (table_of M) x y ≡ get_or (row_at M x).codes y 0
  -- "A single value still resolves to itself, an all-null bus is still Z."
  pub single : (M : Model) (other v : ℕ) → resolved_or M other (v ∷ []) ≡ v
  pub all_null : (M : Model) (c : Configuration) (s : ℕ) → (signal_at M s).kind ≡ bus → driving_of M (map (taken c.time) c.drivers) s ≡ []
      → value_after M c s ≡ Z
  -- "For every accepted table, two numberings of a signal's drivers give one value."
  pub numberings : (m : List ℕ) → refusal_of m ≡ 0 → OneValue (model_of m)
