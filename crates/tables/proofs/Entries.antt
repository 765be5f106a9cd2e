-- The laws of a model's table: which rows it has, its entries, and where they stand in the index. Assumes nothing.
use mathlib.Core.Path.{◌≡◌}
use mathlib.Core.Bool.{Bool, true, false, ◌||◌}
use mathlib.Core.List.{List, [], map}
use mathlib.Core.Logic.{⊎_elim}
use Prim.Native.Nat.{ℕ, ◌+◌, ◌*◌, ◌/◌, ◌%◌, ◌<◌}
use native.Mathlib.Decide.{ℕ_discrete}
use native.Mathlib.Omega.{arith}
use borrow.Author.Tests.{eq-eqb, ne_eqb, lt-ltb}
use lib.Dec.{eqb, ltb, lit≤}
use lib.ListN.{length, get_or}
use Rattle.base.specs.Rules.{first_failing}
use Rattle.base.proofs.Below.{all_of, list_length, list_at, map_at}
use Rattle.values.specs.Resolve.{standard_rows, entries, entry_of, table_by, standard, pair_in, closed, symmetric, associative}
use Rattle.values.proofs.Tables.{code_self}
use Rattle.values.proofs.Resolution.{standard_closed, standard_symmetric, standard_associative}
use Rattle.blocks.specs.Records.{Model, model_of, row_at}
use Rattle.blocks.specs.Index.{table_at, index_size, placed}
use Rattle.blocks.specs.Totals.{totals_ok}
use Rattle.blocks.proofs.Lookup.{rows_total}
use Rattle.blocks.proofs.Places.{placed_part}
use Rattle.fields.specs.Fields.{fields_ok}
use Rattle.fields.proofs.NodeFields.{row_code}
use Rattle.tables.specs.Tables.{rows_of, table_of, symmetric_ok, associative_ok, table_rules, TableIn}

module _ (M : Model) where
  -- no records of kind 7: the standard's rows
  pub rows_none : length M.rows ≡ 0 → rows_of M ≡ standard_rows
  unfolding rows_of
  rows_none e = rw (eq-eqb _ 0 e)

  -- so its table is the standard's
  pub table_standard : length M.rows ≡ 0 → table_of M ≡ standard
  unfolding table_of standard
  table_standard e = rw (rows_none e)

  pub rows_own : (length M.rows ≡ 0 → ⊥) → rows_of M ≡ map (λ d. d.codes) M.rows
  unfolding rows_of
  rows_own e = rw (ne_eqb _ 0 e)

  -- entry n of the standard's, and of the model's own
  pub entry_standard : (n : ℕ) → length M.rows ≡ 0 → entry_of standard_rows n ≡ entry_of (rows_of M) n
  entry_standard n e = rw (rows_none e)

  pub entry_own : (n : ℕ) → (length M.rows ≡ 0 → ⊥) → n / 9 < length M.rows → get_or (row_at M (n / 9)).codes (n % 9) 0 ≡ entry_of (rows_of M) n
  unfolding entry_of
  entry_own n e h = rw (rows_own e, map_at (λ d. d.codes) M.rows (n / 9) (record { codes = []; zeros = false }) [] h)

  pub rows_nine : totals_ok M ≡ true → (length M.rows ≡ 0 → ⊥) → length M.rows ≡ 9
  rows_nine t e = ⊎_elim (λ (z : length M.rows ≡ 0). absurd (e z)) (λ (n : length M.rows ≡ 9). n) (rows_total M t)

  pub table_length : length (table_of M) ≡ entries
  unfolding table_of table_by
  table_length = list_length (entry_of (rows_of M)) entries

-- what the model's own has in the row of x and the column of y
pub pair_own : (M : Model) → length M.rows ≡ 9 → (x y : ℕ) → x < 9 → y < 9 → pair_in (table_of M) x y ≡ get_or (row_at M x).codes y 0
unfolding pair_in table_of table_by
pair_own M l x y h k =
    let n = 9 * x + y in
    let row : n / 9 ≡ x = omega arith in
    let column : n % 9 ≡ y = omega arith in
    rw (code_self x h, code_self y k, list_at (entry_of (rows_of M)) 0 entries n (omega arith), ← entry_own M n (λ e. omega arith) (omega arith), row, column)

-- where the fields are right, each entry is a code
module _ (M : Model) (t : totals_ok M ≡ true) (f : fields_ok M ≡ true) where
  own_code : (length M.rows ≡ 0 → ⊥) → (n : ℕ) → n < entries → get_or (table_of M) n 0 < 9
  unfolding table_of table_by
  own_code e n l =
      let h : n / 9 < length M.rows = rw (rows_nine M t e) (omega arith) in
      rw (list_at (entry_of (rows_of M)) 0 entries n l, ← entry_own M n e h) (row_code M f (n / 9) (n % 9) h (omega arith))

  own_closed : (length M.rows ≡ 0 → ⊥) → closed (table_of M) ≡ true
  unfolding closed
  own_closed e = all_of (λ n. ltb (get_or (table_of M) n 0) 9) entries (λ n l. lt-ltb _ 9 (own_code e n l))

  pub table_closed : closed (table_of M) ≡ true
  table_closed =
      elim (ℕ_discrete (length M.rows) 0) [
        | yes e ↦ rw (table_standard M e) standard_closed
        | no e ↦ own_closed e
      ]

-- the index has room for the table, and holds it once it was written there
pub table_placed : (m before after : List ℕ) → length before ≡ index_size → after ≡ placed before table_at (table_of (model_of m)) → TableIn m after
table_placed m before after l e =
    let t = table_of (model_of m) in
    let n = table_length (model_of m) in
    record { table = rw e (placed_part before table_at t (rw (n, l) (lit≤ tt)) entries n) }

-- the two rules
module _ (M : Model) where
  -- what they say of the table: the standard's passes
  by_rows : {t : Bool} → (length M.rows ≡ 0 → t ≡ true) → (eqb (length M.rows) 0 || t) ≡ true → t ≡ true
  by_rows {t} standards h =
      elim (ℕ_discrete (length M.rows) 0) [
        | yes e ↦ standards e
        | no e ↦ rw (ne_eqb _ 0 e) at h
      ]

  pub table_symmetric : symmetric_ok M ≡ true → symmetric (table_of M) ≡ true
  unfolding symmetric_ok
  table_symmetric h = by_rows (λ e. rw (table_standard M e) standard_symmetric) h

  pub table_associative : associative_ok M ≡ true → associative (table_of M) ≡ true
  unfolding associative_ok
  table_associative h = by_rows (λ e. rw (table_standard M e) standard_associative) h

  -- no table of its own
  pub none_passes : length M.rows ≡ 0 → 0 ≡ first_failing (table_rules M)
  unfolding table_rules first_failing symmetric_ok associative_ok
  none_passes e = rw (eq-eqb _ 0 e)

  -- t is its own
  module _ (e : length M.rows ≡ 0 → ⊥) (t : List ℕ) (i : t ≡ table_of M) where
    pub not_symmetric : symmetric t ≡ false → 24 ≡ first_failing (table_rules M)
    unfolding table_rules first_failing symmetric_ok
    not_symmetric s = rw (ne_eqb _ 0 e, ← i, s)

    pub not_associative : symmetric t ≡ true → associative t ≡ false → 25 ≡ first_failing (table_rules M)
    unfolding table_rules first_failing symmetric_ok associative_ok
    not_associative s a = rw (ne_eqb _ 0 e, ← i, s, a)

    pub both_hold : symmetric t ≡ true → associative t ≡ true → 0 ≡ first_failing (table_rules M)
    unfolding table_rules first_failing symmetric_ok associative_ok
    both_hold s a = rw (ne_eqb _ 0 e, ← i, s, a)
