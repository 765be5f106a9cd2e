-- The rules in checking order: those of the blocks, then those of the model. Assumes nothing.
use mathlib.Core.Path.{◌≡◌, refl, sym, ◌∙◌}
use mathlib.Core.Bool.{true, false}
use mathlib.Core.List.{List, ◌++◌}
use Prim.Native.Nat.{ℕ, ◌≤◌}
use native.Mathlib.Omega.{arith}
use Rattle.std.specs.Prelude.{Result, Ok, Err}
use Rattle.base.specs.Rules.{Rule, first_failing}
use Rattle.base.specs.Refusals.{number_of, told}
use Rattle.base.specs.declared.refusal.Refusal.{Refusal}
use Rattle.base.specs.declared.refusal.Refusal.TheVariants.{Fields, Trees, Types, Owners, NullOnPlain}
use Rattle.base.proofs.Rules.{numbered, none_fails, later_decide, first_decides, first_most}
use Rattle.blocks.specs.Blocks.{length_ok, heads_ok}
use Rattle.blocks.specs.Records.{Model, model_of}
use Rattle.blocks.specs.Index.{table_at, placed}
use Rattle.blocks.specs.Totals.{totals_ok, TotalsOf, block_rules}
use Rattle.blocks.specs.declared.index.Totals.{Totals}
use Rattle.blocks.proofs.BlockForms.{blocks_numbered}
use Rattle.fields.specs.Fields.{fields_ok}
use Rattle.trees.specs.Trees.{trees_ok, types_ok}
use Rattle.tables.specs.Tables.{table_of, table_rules}
use Rattle.model.specs.Nulls.{nulls_ok}
use Rattle.model.specs.Owners.{owners_ok}
use Rattle.model.specs.Rules.{rules_of, refusal_of, Accepted, record_rules}
use Rattle.model.specs.Index.{DriversIn, Judged, LoadedIs}
use Rattle.model.proofs.Entries.{usable}

-- the highest number of the model's own rules
abbrev pub highest : ℕ
highest = 25

-- no rule has the number 0
pub number_some : (r : Refusal) → 1 ≤ number_of r
number_some r = grind arith

module _ (m : List ℕ) where
  -- a rule of the blocks fails
  pub blocks_refused : (first_failing (block_rules m) ≡ 0 → ⊥) → first_failing (block_rules m) ≡ refusal_of m
  unfolding refusal_of rules_of
  blocks_refused h = sym (first_decides (block_rules m) (record_rules (model_of m)) h)

  pub blocks_refuse : (r : Refusal) → number_of r ≡ first_failing (block_rules m) → LoadedIs m (Err r)
  blocks_refuse r e = record { refusal = e ∙ blocks_refused (λ z. omega (arith, number_some r)); loaded = tt }

  -- the rules of the blocks hold
  module _ (h : first_failing (block_rules m) ≡ 0) where
    pub blocks_passed : first_failing (record_rules (model_of m)) ≡ refusal_of m
    unfolding refusal_of rules_of
    blocks_passed = sym (later_decide 4 (block_rules m) (record_rules (model_of m)) (blocks_numbered m) h)

    -- the records decide
    pub records_refuse : (index : List ℕ) (r : Refusal) → Judged m index (Err r) → LoadedIs m (Err r)
    records_refuse index r j = record { refusal = j.refusal ∙ blocks_passed; loaded = tt }

    pub records_pass : (t : Totals) (index : List ℕ) → TotalsOf (model_of m) t → Judged m index (Ok tt) → LoadedIs m (Ok (record { totals = t; index = index }))
    records_pass t index e j = record { refusal = j.refusal ∙ blocks_passed; loaded = record { totals = e; usable = j.usable refl } }

    pub length_holds : length_ok m ≡ true
    unfolding block_rules
    length_holds = none_fails 4 (block_rules m) (blocks_numbered m) h 0

    pub heads_hold : heads_ok m ≡ true
    unfolding block_rules
    heads_hold = none_fails 4 (block_rules m) (blocks_numbered m) h 2

    pub totals_hold : totals_ok (model_of m) ≡ true
    unfolding block_rules
    totals_hold = none_fails 4 (block_rules m) (blocks_numbered m) h 3

  rules_numbered : numbered highest (rules_of m) ≡ true
  unfolding rules_of block_rules record_rules table_rules
  rules_numbered = refl

  -- of rules behind the model's own: its refusal goes before them, and where it has none they decide
  pub model_decides : (rs : List Rule) → (refusal_of m ≡ 0 → ⊥) → first_failing (rules_of m ++ rs) ≡ refusal_of m
  unfolding refusal_of
  model_decides rs h = first_decides (rules_of m) rs h

  pub others_decide : (rs : List Rule) → refusal_of m ≡ 0 → first_failing (rules_of m ++ rs) ≡ first_failing rs
  unfolding refusal_of
  others_decide rs h = later_decide highest (rules_of m) rs rules_numbered h

  -- and where rules behind it hold too, later ones decide
  pub later_ones_decide : (rs ts : List Rule) → numbered highest rs ≡ true → first_failing (rules_of m ++ rs) ≡ 0 → first_failing ((rules_of m ++ rs) ++ ts) ≡ first_failing ts
  unfolding rules_of block_rules record_rules table_rules
  later_ones_decide rs ts n h = later_decide highest (rules_of m ++ rs) ts n h

  pub refusal_most : refusal_of m ≤ highest
  unfolding refusal_of
  refusal_most = first_most highest (rules_of m) rules_numbered

  -- a model without refusal meets the rules of its records
  pub accepted : refusal_of m ≡ 0 → Accepted (model_of m)
  unfolding refusal_of rules_of block_rules record_rules table_rules
  accepted h =
      let holds = none_fails highest (rules_of m) rules_numbered h in
      record { totals = holds 3; fields = holds 4; trees = holds 5; types = holds 6; owners = holds 7; nulls = holds 8; symmetric = holds 9; associative = holds 10 }

-- what the rules of the records give, by the first of them that fails
module _ (m index : List ℕ) where
  abbrev M : Model
  M = model_of m

  pub fields_fail : fields_ok M ≡ false → Judged m index (Err Fields)
  unfolding record_rules first_failing
  fields_fail a = record { refusal = rw a; usable = λ z. absurd (omega arith) }

  module _ (a : fields_ok M ≡ true) where
    pub trees_fail : trees_ok M ≡ false → Judged m index (Err Trees)
    unfolding record_rules first_failing
    trees_fail b = record { refusal = rw (a, b); usable = λ z. absurd (omega arith) }

    module _ (b : trees_ok M ≡ true) where
      pub types_fail : types_ok M ≡ false → Judged m index (Err Types)
      unfolding record_rules first_failing
      types_fail c = record { refusal = rw (a, b, c); usable = λ z. absurd (omega arith) }

      module _ (c : types_ok M ≡ true) where
        pub owners_fail : owners_ok M ≡ false → Judged m index (Err Owners)
        unfolding record_rules first_failing
        owners_fail d = record { refusal = rw (a, b, c, d); usable = λ z. absurd (omega arith) }

        module _ (d : owners_ok M ≡ true) where
          pub nulls_fail : nulls_ok M ≡ false → Judged m index (Err NullOnPlain)
          unfolding record_rules first_failing
          nulls_fail e = record { refusal = rw (a, b, c, d, e); usable = λ z. absurd (omega arith) }

          -- 24 and 25 decide: before has no table yet
          module _ (e : nulls_ok M ≡ true) (before : List ℕ) (i : DriversIn m before) where
            accepts : first_failing (table_rules M) ≡ 0 → Accepted M
            unfolding table_rules
            accepts z =
                let holds = none_fails highest (table_rules M) refl z in
                record {
                  totals = i.types.starts.totals;
                  fields = a;
                  trees = b;
                  types = c;
                  owners = d;
                  nulls = e;
                  symmetric = holds 0;
                  associative = holds 1;
                }

            pub table_decides : index ≡ placed before table_at (table_of M) → (r : Result Unit Refusal) → told r ≡ first_failing (table_rules M) → Judged m index r
            unfolding record_rules first_failing
            table_decides p r q = record { refusal = rw (a, b, c, d, e) q; usable = λ z. usable m before index i p (accepts (sym q ∙ z)) }
