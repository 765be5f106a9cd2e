-- "Pair table, rows and columns in that order: UUUUUUUUU, UXXXXXXXX, UX0X0000X, UXX11111X, UX01ZWLHX, UX01WWWWX, UX01LWLWX,
-- UX01HWWHX, UXXXXXXXX. Resolution of one value is that value; of more, the pair table applied one after another."
use Rattle.std.specs.Prelude.{◌≡◌, Bool, true, ℕ, ◌+◌, ◌*◌, ◌/◌, ◌%◌, ◌<◌, eqb, ltb, length, get_or}
use mathlib.Core.List.{List, [], ◌∷◌, foldl, Perm}
use Rattle.base.specs.Below.{all_below, list_below}
use Rattle.values.specs.Nine.{U, X, ‘0’, ‘1’, Z, W, L, H, code_of}

-- the rows of U, X, 0, 1, Z, W, L, H and -, each with its columns in that order
unfoldable pub standard_rows : List (List ℕ)
standard_rows =
    (U ∷ U ∷ U ∷ U ∷ U ∷ U ∷ U ∷ U ∷ U ∷ [])
    ∷ (U ∷ X ∷ X ∷ X ∷ X ∷ X ∷ X ∷ X ∷ X ∷ [])
    ∷ (U ∷ X ∷ ‘0’ ∷ X ∷ ‘0’ ∷ ‘0’ ∷ ‘0’ ∷ ‘0’ ∷ X ∷ [])
    ∷ (U ∷ X ∷ X ∷ ‘1’ ∷ ‘1’ ∷ ‘1’ ∷ ‘1’ ∷ ‘1’ ∷ X ∷ [])
    ∷ (U ∷ X ∷ ‘0’ ∷ ‘1’ ∷ Z ∷ W ∷ L ∷ H ∷ X ∷ [])
    ∷ (U ∷ X ∷ ‘0’ ∷ ‘1’ ∷ W ∷ W ∷ W ∷ W ∷ X ∷ [])
    ∷ (U ∷ X ∷ ‘0’ ∷ ‘1’ ∷ L ∷ W ∷ L ∷ W ∷ X ∷ [])
    ∷ (U ∷ X ∷ ‘0’ ∷ ‘1’ ∷ H ∷ W ∷ W ∷ H ∷ X ∷ [])
    ∷ (U ∷ X ∷ X ∷ X ∷ X ∷ X ∷ X ∷ X ∷ X ∷ [])
    ∷ []

-- a table is nine rows of nine, one behind the other: its entry n, and all of them
abbrev pub entries : ℕ
entries = 81

unfoldable pub entry_of : List (List ℕ) → ℕ → ℕ
entry_of rows n = get_or (get_or rows (n / 9) []) (n % 9) 0

unfoldable pub table_by : List (List ℕ) → List ℕ
table_by rows = list_below (entry_of rows) entries

unfoldable pub standard : List ℕ
standard = table_by standard_rows

-- what a table has in the row of x and the column of y
unfoldable pub pair_in : List ℕ → ℕ → ℕ → ℕ
pair_in table x y = get_or table (9 * code_of x + code_of y) 0

unfoldable pub pair_of : ℕ → ℕ → ℕ
pair_of x y = pair_in standard x y

-- of one value that value; of more, the pair applied one after another; of none Z, as IEEE 1164's `resolved` has it
unfoldable pub resolution_by : (ℕ → ℕ → ℕ) → List ℕ → ℕ
resolution_by pair [] = Z
resolution_by pair (x ∷ xs) = foldl pair x xs

unfoldable pub resolution_of : List ℕ → ℕ
resolution_of values = resolution_by pair_of values

-- Tests of a table: each entry is a code; at the codes 0 to 8 the order of two values, and the grouping of three, is free.
unfoldable pub closed : List ℕ → Bool
closed table = all_below (λ n. ltb (get_or table n 0) 9) entries

unfoldable pub row_symmetric : List ℕ → ℕ → Bool
row_symmetric table x = all_below (λ y. eqb (pair_in table x y) (pair_in table y x)) 9

unfoldable pub symmetric : List ℕ → Bool
symmetric table = all_below (row_symmetric table) 9

unfoldable pub pair_associative : List ℕ → ℕ → ℕ → Bool
pair_associative table x y = all_below (λ z. eqb (pair_in table (pair_in table x y) z) (pair_in table x (pair_in table y z))) 9

unfoldable pub row_associative : List ℕ → ℕ → Bool
row_associative table x = all_below (pair_associative table x) 9

unfoldable pub associative : List ℕ → Bool
associative table = all_below (row_associative table) 9

-- What follows for a table that passes them.
pub record PairLaws (pair : ℕ → ℕ → ℕ) : Type 0 where
  pub code : (x y : ℕ) → pair x y < 9
  pub commutes : (x y : ℕ) → pair x y ≡ pair y x
  pub associates : (x y z : ℕ) → pair (pair x y) z ≡ pair x (pair y z)

-- What follows for the resolution by such a pair: it does not depend on the order of the values.
pub record ResolutionLaws (pair : ℕ → ℕ → ℕ) : Type 0 where
  pub one : (x : ℕ) → resolution_by pair (x ∷ []) ≡ x
  pub code : (xs : List ℕ) → ((k : ℕ) → k < length xs → get_or xs k 0 < 9) → resolution_by pair xs < 9
  pub order : (xs ys : List ℕ) → Perm xs ys → resolution_by pair xs ≡ resolution_by pair ys

-- The laws of a table that passes the tests.
pub record TableLaws (table : List ℕ) : Type 0 where
  pub pairs : closed table ≡ true → symmetric table ≡ true → associative table ≡ true → PairLaws (pair_in table)
  pub resolutions : closed table ≡ true → symmetric table ≡ true → associative table ≡ true → ResolutionLaws (pair_in table)
