-- What the loops of a time step leave: the entries of the signals' histories, shifted.
use Rattle.std.specs.Prelude.{◌≡◌, List, ℕ, ◌+◌, ◌-◌, ◌*◌, ◌%◌, ◌≤◌, ◌<◌, min, length, get_or}

-- the entries between lo and hi are those of f, all others stand
pub record Between (f : ℕ → ℕ) (old : List ℕ) (lo hi : ℕ) (new : List ℕ) : Type 0 where
  pub long : length new ≡ length old
  pub done : (j : ℕ) → lo < j → j < hi → get_or new j 0 ≡ f j
  pub before : (j : ℕ) → j ≤ lo → get_or new j 0 ≡ get_or old j 0
  pub after : (j : ℕ) → hi ≤ j → get_or new j 0 ≡ get_or old j 0

-- of the history at base, each entry after the n-th has the value that stood n entries before it
abbrev pub MovedBy : List ℕ → ℕ → ℕ → List ℕ → Type 0
MovedBy old base n new = Between (λ j. get_or old (j - n) 0) old (base + n) (base + 32) new

-- of the history at base, each of the n entries after the first has the first's value
abbrev pub FilledTo : List ℕ → ℕ → ℕ → List ℕ → Type 0
FilledTo old base n new = Between (λ j. get_or old base 0) old base (base + n + 1) new

-- in the histories of the first nsignals signals each entry has the value that stood n entries before it in the same history, or the
-- history's first; all other entries stand
pub record ShiftedBy (old : List ℕ) (n nsignals : ℕ) (new : List ℕ) : Type 0 where
  pub done : (j : ℕ) → j < 32 * nsignals → get_or new j 0 ≡ get_or old (j - min (j % 32) n) 0
  pub left : (j : ℕ) → 32 * nsignals ≤ j → get_or new j 0 ≡ get_or old j 0
