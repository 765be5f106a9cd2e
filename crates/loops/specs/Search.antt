-- The chain that is asked for, computed: the lowest process that some walk brings back to itself, by the fewest edges, and at each step on
-- to the lowest process from which the edges that are left lead back.
-- Assumes nothing.
use Rattle.std.specs.Prelude.{Bool, ◌&&◌, List, [], ◌∷◌, ℕ, zero, suc, eqb, ltb}
use Rattle.base.specs.Below.{any_below}
use Rattle.base.specs.Cases.{◌∣◌, ◌⇒◌}
use Rattle.base.specs.Course.{first_with}

module _ (leads : ℕ → ℕ → Bool) (P : ℕ) where
  -- k edges lead from v to s
  unfoldable pub walks : ℕ → ℕ → ℕ → Bool
  walks s zero v = eqb v s
  walks s (suc k) v = any_below (λ w. leads v w && walks s k w) P

  -- the lowest process after v from which k edges lead to s
  unfoldable pub next_on : ℕ → ℕ → ℕ → ℕ
  next_on s k v = first_with (λ w. leads v w && walks s k w) P

  -- the processes from v on that k edges pass before s
  unfoldable pub chain_from : ℕ → ℕ → ℕ → List ℕ
  chain_from s zero v = []
  chain_from s (suc k) v = v ∷ chain_from s k (next_on s k v)

  -- one less than the fewest edges that lead from s back to it, or P where none do
  unfoldable pub round_of : ℕ → ℕ
  round_of s = first_with (λ l. walks s (suc l) s) P

  -- the lowest process on a closed chain, or P where there is none
  unfoldable pub lowest_on : ℕ
  lowest_on = first_with (λ s. ltb (round_of s) P) P

  unfoldable pub chain_of : List ℕ
  chain_of = ltb lowest_on P ⇒ chain_from lowest_on (suc (round_of lowest_on)) lowest_on ∣ []
