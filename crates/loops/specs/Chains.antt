-- Document 02, item 11, "Loops without delay": closed chains of a relation `leads` between the processes below P, and the one to return.
-- "The check returns a closed chain of processes, or says that none exists, which it says exactly in that case. The chain has each
-- process once and begins at the lowest process on any; it is the shortest, then the one with the lowest numbers in turn."
-- Assumes nothing.
use Rattle.std.specs.Prelude.{◌≡◌, Bool, true, List, [], ◌∷◌, ◌⊎◌, ◌≢◌, ℕ, suc, ◌≤◌, ◌<◌, length, get_or}

-- the first of a chain
abbrev pub start_of : List ℕ → ℕ
start_of xs = get_or xs 0 0

-- xs is not after ys where numbers are compared in turn
abbrev pub InTurn : List ℕ → List ℕ → Type 0
InTurn [] ys = Unit {0}
InTurn (x ∷ xs) [] = ⊥
InTurn (x ∷ xs) (y ∷ ys) = (x < y) ⊎ ((x ≡ y) × InTurn xs ys)

module _ (leads : ℕ → ℕ → Bool) (P : ℕ) where
  -- each leads to the next, and the last to the first (what stands behind the last for `get_or`)
  pub record ClosedChain (xs : List ℕ) : Type 0 where
    pub some : 0 < length xs
    pub there : (i : ℕ) → i < length xs → get_or xs i 0 < P
    pub linked : (i : ℕ) → i < length xs → leads (get_or xs i 0) (get_or xs (suc i) (start_of xs)) ≡ true
    pub once : (i j : ℕ) → i < j → j < length xs → get_or xs i 0 ≢ get_or xs j 0

  abbrev pub NoChain : Type 0
  NoChain = (ys : List ℕ) → ClosedChain ys → ⊥

  -- xs is what the check returns: no process exactly where there is no closed chain, else the chain asked for
  pub record Asked (xs : List ℕ) : Type 0 where
    pub none : length xs ≡ 0 → NoChain
    pub closed : 0 < length xs → ClosedChain xs
    -- "begins at the lowest process on any"
    pub lowest : (ys : List ℕ) → ClosedChain ys → (i : ℕ) → i < length ys → start_of xs ≤ get_or ys i 0
    -- "it is the shortest,"
    pub shortest : (ys : List ℕ) → ClosedChain ys → start_of ys ≡ start_of xs → length xs ≤ length ys
    -- "then the one with the lowest numbers in turn"
    pub least : (ys : List ℕ) → ClosedChain ys → start_of ys ≡ start_of xs → length ys ≡ length xs → InTurn xs ys
