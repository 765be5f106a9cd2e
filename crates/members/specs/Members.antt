-- Picks of a process and of the processes of a set, over the array of standings.
use Rattle.std.specs.Prelude.{Bool, not, List, ℕ, eqb, leb, get_or}
use Rattle.base.specs.Cases.{◌∣◌, ◌⇒◌}
use Rattle.rules.specs.Configuration.{ready, stopped}
use Rattle.rules.specs.Orders.{some_member}

-- process p is ready
abbrev pub ready_in : List ℕ → ℕ → Bool
ready_in standings p = eqb (get_or standings p 0) ready

-- 12 or 13, the refusal of a pick of process p of nprocesses, or 0
abbrev pub pick_refusal : List ℕ → ℕ → ℕ → ℕ
pick_refusal standings nprocesses p = leb nprocesses p ⇒ 12 ∣ not (ready_in standings p) ⇒ 13 ∣ 0

-- of a pick of each process of a set
unfoldable pub set_refusal : List ℕ → ℕ → ℕ → ℕ
set_refusal standings nprocesses set =
    some_member (λ p. leb nprocesses p) set ⇒ 12
    ∣ some_member (λ p. not (ready_in standings p)) set ⇒ 13
    ∣ 0

-- a process of the set has stopped
abbrev pub stopped_in : List ℕ → ℕ → Bool
stopped_in standings set = some_member (λ p. eqb (get_or standings p 0) stopped) set
