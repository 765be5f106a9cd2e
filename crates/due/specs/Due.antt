-- What is due, and the refusals of a delta step and of a time step, over the arrays of the struct.
use Rattle.std.specs.Prelude.{Bool, not, List, ℕ, min, eqb, ltb, leb, get_or, Result, Ok, Err}
use Rattle.base.specs.Below.{any_below, list_below}
use Rattle.base.specs.declared.refusal.Refusal.{Refusal}
use Rattle.base.specs.Refusals.{number_of}
use Rattle.base.specs.Cases.{◌∣◌, ◌⇒◌}
use Rattle.rules.specs.Configuration.{delta_limit, last_time, ready, stopped}
use Rattle.rules.specs.Orders.{least}
use Rattle.waveforms.specs.Pending.{never}

-- the earliest of the first n times, or never
abbrev pub soonest_of : List ℕ → ℕ → ℕ
soonest_of times n = least never (list_below (λ k. get_or times k 0) n)

-- the earliest of the first times of ndrivers drivers and the deadlines of nprocesses processes
abbrev pub soonest_in : List ℕ → ℕ → List ℕ → ℕ → ℕ
soonest_in due ndrivers deadlines nprocesses = min (soonest_of due ndrivers) (soonest_of deadlines nprocesses)

-- one of nprocesses processes has standing x
abbrev pub some_is : List ℕ → ℕ → ℕ → Bool
some_is standings nprocesses x = any_below (λ p. eqb (get_or standings p 0) x) nprocesses

-- the number of the refusal, or n
abbrev pub told_or : {A : Type 0} → Result A Refusal → ℕ → ℕ
told_or (Ok x) n = n
told_or (Err r) n = number_of r

-- refusals 14 and 15, which hold for both steps, else n
unfoldable pub standing_refusal : List ℕ → ℕ → ℕ → ℕ
standing_refusal standings nprocesses n =
    some_is standings nprocesses ready ⇒ 14
    ∣ some_is standings nprocesses stopped ⇒ 15
    ∣ n

-- the refusal of a delta step, or 0, where t is the earliest due time: 22 after 15, then 16
unfoldable pub delta_refusal : List ℕ → ℕ → ℕ → ℕ → ℕ → ℕ
delta_refusal standings nprocesses t time deltas =
    standing_refusal standings nprocesses (not (eqb t time) ⇒ 22 ∣ leb delta_limit deltas ⇒ 16 ∣ 0)

-- the refusal of a time step, or 0: 23 after 15, then 17 and 18
unfoldable pub time_refusal : List ℕ → ℕ → ℕ → ℕ → ℕ
time_refusal standings nprocesses t time =
    standing_refusal standings nprocesses (eqb t time ⇒ 23 ∣ eqb t never ⇒ 17 ∣ ltb last_time t ⇒ 18 ∣ 0)
