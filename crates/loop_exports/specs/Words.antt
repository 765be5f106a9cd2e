-- The words that the library writes of a check.
use Rattle.std.specs.Prelude.{List, [], ◌∷◌, ◌++◌, ℕ, length, get_or}
use Rattle.base.specs.Below.{list_below}
use Rattle.base.specs.Cases.{◌∣◌, ◌⇒◌}
use Rattle.loop_check.specs.Check.{Check}

-- the chain's processes, 0 behind the last; how many they are; 1 where every wait has no c or a constant c above 0, else 0
abbrev pub words_of : Check → List ℕ
words_of r = list_below (λ i. get_or r.chain i 0) 16 ++ (length r.chain ∷ (r.later ⇒ 1 ∣ 0) ∷ [])
