-- Numbered rules in checking order: "the first number that applies".
use Rattle.std.specs.Prelude.{Bool, List, [], ◌∷◌, ℕ}
use Rattle.base.specs.Cases.{◌∣◌, ◌⇒◌}

-- the number of a refusal, and the test that a thing which is not refused passes
pub record Rule : Type 0 where
  pub number : ℕ
  pub holds : Bool

infix 4 ◌needs◌
abbrev pub ◌needs◌ : ℕ → Bool → Rule
n needs t = record { number = n; holds = t }

-- the number of the first rule that does not hold, or 0
unfoldable pub first_failing : List Rule → ℕ
first_failing [] = 0
first_failing (r ∷ rest) = r.holds ⇒ first_failing rest ∣ r.number
