-- The proved table of the bench: "The cases marked [p] form one table, carried by one theorem over its rows."
use Rattle.std.specs.Prelude.{◌≡◌, Bool, true, ◌&&◌, List, [], ◌∷◌, ℕ, eqb}
use Rattle.values.specs.Nine.{U, X, ‘0’, ‘1’, Z, W, L, H, ‘-’}
use Rattle.values.specs.Resolve.{resolution_of}

-- what the rules give, and what the paper says
pub record Row : Type 0 where
  pub given : ℕ
  pub said : ℕ

infix 4 ◌gives◌
abbrev pub ◌gives◌ : ℕ → ℕ → Row
g gives s = record { given = g; said = s }

-- the test of a table: in each row the two are equal
unfoldable pub holds : List Row → Bool
holds [] = true
holds (r ∷ rs) = eqb r.given r.said && holds rs

abbrev pub Holds : List Row → Type 0
Holds rows = holds rows ≡ true

-- "Resolution [p]: 0,1 is X; L,H is W; Z,L is L; W,0 is 0; U,1 is U; one - is -; two - are X."
unfoldable pub rows : List Row
rows =
    (resolution_of (‘0’ ∷ ‘1’ ∷ []) gives X)
    ∷ (resolution_of (L ∷ H ∷ []) gives W)
    ∷ (resolution_of (Z ∷ L ∷ []) gives L)
    ∷ (resolution_of (W ∷ ‘0’ ∷ []) gives ‘0’)
    ∷ (resolution_of (U ∷ ‘1’ ∷ []) gives U)
    ∷ (resolution_of (‘-’ ∷ []) gives ‘-’)
    ∷ (resolution_of (‘-’ ∷ ‘-’ ∷ []) gives X)
    ∷ []
