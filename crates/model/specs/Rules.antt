-- The number of a refused model: the first that applies of 1 to 8, 20, 24 and 25.
use Rattle.std.specs.Prelude.{◌≡◌, true, List, ◌∷◌, ◌++◌, ℕ}
use Rattle.base.specs.Rules.{Rule, ◌needs◌, first_failing}
use Rattle.blocks.specs.Records.{Model, model_of}
use Rattle.blocks.specs.Totals.{totals_ok, block_rules}
use Rattle.fields.specs.Fields.{fields_ok}
use Rattle.trees.specs.Trees.{trees_ok, types_ok}
use Rattle.tables.specs.Tables.{symmetric_ok, associative_ok, table_rules}
use Rattle.model.specs.Nulls.{nulls_ok}
use Rattle.model.specs.Owners.{owners_ok}

-- the rules that the records are judged by, in checking order
unfoldable pub record_rules : Model → List Rule
record_rules M =
    (5 needs fields_ok M)
    ∷ (6 needs trees_ok M)
    ∷ (7 needs types_ok M)
    ∷ (8 needs owners_ok M)
    ∷ (20 needs nulls_ok M)
    ∷ table_rules M

-- the rules that concern the model alone
unfoldable pub rules_of : List ℕ → List Rule
rules_of m = block_rules m ++ record_rules (model_of m)

-- "each over the whole input before the next": the first that applies, or 0
unfoldable pub refusal_of : List ℕ → ℕ
refusal_of m = first_failing (rules_of m)

-- what the rules from 4 on together say: "A model is accepted when no refusal that concerns the model alone applies."
pub record Accepted (M : Model) : Type 0 where
  pub totals : totals_ok M ≡ true
  pub fields : fields_ok M ≡ true
  pub trees : trees_ok M ≡ true
  pub types : types_ok M ≡ true
  pub owners : owners_ok M ≡ true
  pub nulls : nulls_ok M ≡ true
  pub symmetric : symmetric_ok M ≡ true
  pub associative : associative_ok M ≡ true
