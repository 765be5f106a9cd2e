-- The configuration: "It holds the time, the count of delta steps at this time, and per signal the current value and those of
-- 1 to 31 time units ago; per driver a current value and a waveform of at most eight pending transactions (time, value),
-- rising in time; per process variables, place, standing (0 ready, 1 waiting, 2 stopped), deadline and fault." Document 02, item 3:
-- "A process keeps the node (0 without a fault) beside its fault"; item 4: "The configuration gains that earlier value for every signal."
-- A value is 32 bits: an integer in two's complement, a logic value as its code 0 to 8, a boolean as 0 or 1. What a transaction
-- carries, a pending one or a driver's current one, is a value or null (`Driven`: `To v` or `Null`); a driver that is null is off.
use Rattle.std.specs.Prelude.{List, [], ◌∷◌, map, ℕ, eqb, length, get_or, replicate}
use Rattle.std.proofs.Math.Option.{Option, none}
use Rattle.base.specs.Below.{join_below, list_below}
use Rattle.base.specs.Cases.{◌∣◌, ◌⇒◌}
use Rattle.values.specs.Resolve.{pair_in, resolution_by}
use Rattle.tables.specs.Tables.{table_of}
use Rattle.blocks.specs.Records.{Model, signal_at, driver_at}
use Rattle.rules.specs.declared.driven.Driven.{Driven}
use Rattle.rules.specs.declared.driven.Driven.TheVariants.{To, Null}

pub record Transaction : Type 0 where
  pub time : ℕ
  pub value : Driven

pub record DriverState : Type 0 where
  pub current : Driven
  pub pending : List Transaction

-- standings
abbrev pub ready : ℕ
ready = 0

abbrev pub waiting : ℕ
waiting = 1

abbrev pub stopped : ℕ
stopped = 2

-- limits: the delta steps done at one time, and the latest time
abbrev pub delta_limit : ℕ
delta_limit = 1000

abbrev pub last_time : ℕ
last_time = 1000000000000

pub record ProcessState : Type 0 where
  pub place : ℕ
  pub standing : ℕ
  pub deadline : Option ℕ
  pub fault : ℕ
  -- the node at fault
  pub node : ℕ

pub record Configuration : Type 0 where
  pub time : ℕ
  -- the delta steps done at this time
  pub deltas : ℕ
  -- per signal the values of 0 to 31 units ago
  pub signals : List (List ℕ)
  -- per signal the value before the latest delta step
  pub earlier : List ℕ
  pub drivers : List DriverState
  pub processes : List ProcessState
  -- the variables of all processes, as the model numbers them
  pub variables : List ℕ

-- entry n of each, and what stands for one that is not there
abbrev pub driver_in : List DriverState → ℕ → DriverState
driver_in ds n = get_or ds n (record { current = To 0; pending = [] })

abbrev pub process_in : List ProcessState → ℕ → ProcessState
process_in ps n = get_or ps n (record { place = 0; standing = stopped; deadline = none; fault = 0; node = 0 })

-- signal s of k units ago
abbrev pub past_of : List (List ℕ) → ℕ → ℕ → ℕ
past_of ss s k = get_or (get_or ss s []) k 0

abbrev pub current_of : List (List ℕ) → ℕ → ℕ
current_of ss s = past_of ss s 0

-- "the empty configuration: no signals, drivers or processes, time and count 0"
abbrev pub empty : Configuration
empty = record { time = 0; deltas = 0; signals = []; earlier = []; drivers = []; processes = []; variables = [] }

-- "A driver whose current transaction is null adds nothing to the resolution."
abbrev pub values_of : Driven → List ℕ
values_of (To v) = v ∷ []
values_of Null = []

-- the current value of driver k, where it drives signal s and is on
abbrev pub driving_by : Model → List DriverState → ℕ → ℕ → List ℕ
driving_by M ds s k = eqb (driver_at M k).signal s ⇒ values_of (driver_in ds k).current ∣ []

-- the driving values of signal s: "all its drivers' current values", null left out
unfoldable pub driving_of : Model → List DriverState → ℕ → List ℕ
driving_of M ds s = join_below (driving_by M ds s) (length M.drivers)

-- the resolution of the driving values by the model's pair table, or other where there are none
abbrev pub resolved_or : Model → ℕ → List ℕ → ℕ
resolved_or M other [] = other
resolved_or M other (v ∷ vs) = resolution_by (pair_in (table_of M)) (v ∷ vs)

-- "drivers have their signal's starting value"
unfoldable pub first_drivers : Model → List DriverState
first_drivers M = map (λ d. record { current = To (signal_at M d.signal).start; pending = [] }) M.drivers

-- "a signal is the resolution of its drivers (its starting value if it has none)"
unfoldable pub first_signal : Model → ℕ → ℕ
first_signal M s = resolved_or M (signal_at M s).start (driving_of M (first_drivers M) s)

-- "At first time and count are 0, all processes are ready at their first statement with no deadline and fault 0, variables have
-- their starting values [..] Values before time 0 are that first current value." The node is "0 without a fault". The
-- earlier value is "the first current value if there was none": no delta step yet.
unfoldable pub first : Model → Configuration
first M =
    record {
      time = 0;
      deltas = 0;
      signals = list_below (λ s. replicate 32 (first_signal M s)) (length M.signals);
      earlier = list_below (first_signal M) (length M.signals);
      drivers = first_drivers M;
      processes = map (λ p. record { place = p.first; standing = ready; deadline = none; fault = 0; node = 0 }) M.processes;
      variables = map (λ v. v.start) M.variables;
    }
