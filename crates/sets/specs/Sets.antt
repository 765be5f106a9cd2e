-- Sets of signals or of processes as bits: bit n for signal or process n.
use Rattle.std.specs.Prelude.{◌≡◌, Bool, ℕ, ◌/◌, ◌%◌, ◌^◌, ◌<◌, eqb}

-- bit n of a set
unfoldable pub in_set : ℕ → ℕ → Bool
in_set set n = eqb (set / 2 ^ n % 2) 1

-- the set has exactly the numbers of which f says so
pub record SetOf (f : ℕ → Bool) (set : ℕ) : Type 0 where
  pub at : (s : ℕ) → s < 32 → in_set set s ≡ f s
