-- The delta step and the time step.
use Rattle.std.specs.Prelude.{Bool, false, not, ◌&&◌, List, [], ◌∷◌, ◌++◌, map, ℕ, ◌+◌, ◌-◌, min, eqb, length, get_or, take, replicate, Ok, Err}
use Rattle.std.proofs.Math.Option.{Option, none, some}
use Rattle.base.specs.Below.{any_below, list_below}
use Rattle.base.specs.Cases.{◌∣◌, ◌⇒◌, ◌is◌⇒◌}
use Rattle.sets.specs.Sets.{in_set}
use Rattle.values.specs.Nine.{Z}
use Rattle.blocks.specs.Records.{bus, Model, signal_at, driver_at, statement_at}
use Rattle.blocks.specs.declared.records.SignalRecord.{SignalRecord}
use Rattle.blocks.specs.declared.records.StatementRecord.{StatementRecord}
use Rattle.fields.specs.Fields.{absent}
use Rattle.rules.specs.declared.driven.Driven.{Driven}
use Rattle.rules.specs.Values.{Value}
use Rattle.rules.specs.Configuration.{Transaction, DriverState, ProcessState, Configuration, driver_in, process_in, current_of, driving_of, resolved_or, ready, waiting}
use Rattle.rules.specs.Evaluation.{Environment, environment_of, eval_of}
use Rattle.rules.specs.Statements.{next_place, stops}

-- a waveform rises in time, so its first transaction is the one that can be due
abbrev pub due_in : ℕ → List Transaction → Bool
due_in t [] = false
due_in t (x ∷ w) = eqb x.time t

-- driver d has a transaction due at t
unfoldable pub transaction_due : ℕ → DriverState → Bool
transaction_due t d = due_in t d.pending

abbrev pub taken_in : ℕ → Driven → List Transaction → DriverState
taken_in t current [] = record { current = current; pending = [] }
taken_in t current (x ∷ w) =
    eqb x.time t ⇒ record { current = x.value; pending = w } ∣ record { current = current; pending = x ∷ w }

-- "Each due transaction becomes its driver's current value and leaves"
unfoldable pub taken : ℕ → DriverState → DriverState
taken t d = taken_in t d.current d.pending

abbrev pub deadline_at : ℕ → Option ℕ → Bool
deadline_at t none = false
deadline_at t (some d) = eqb d t

-- process q's deadline is due at t
unfoldable pub deadline_due : ℕ → ProcessState → Bool
deadline_due t q = deadline_at t q.deadline

-- signal s has a driver with a transaction due at t
unfoldable pub active : Model → ℕ → List DriverState → ℕ → Bool
active M t ds s = any_below (λ k. eqb (driver_at M k).signal s && transaction_due t (driver_in ds k)) (length M.drivers)

-- a signal's history with another current value
abbrev pub with_current : ℕ → List ℕ → List ℕ
with_current v [] = v ∷ []
with_current v (x ∷ past) = v ∷ past

-- "With all its drivers null, a bus is Z and a register keeps its value": what the signal becomes then, v being its value
unfoldable pub undriven : SignalRecord → ℕ → ℕ
undriven d v = d.kind is bus ⇒ Z ∣ v

-- what signal s becomes where it is active: "the resolution of all its drivers' current values"
abbrev pub value_after : Model → Configuration → ℕ → ℕ
value_after M c s = resolved_or M (undriven (signal_at M s) (current_of c.signals s)) (driving_of M (map (taken c.time) c.drivers) s)

-- "each signal with such a driver becomes" that
unfoldable pub signal_after : Model → Configuration → ℕ → List ℕ
signal_after M c s =
    active M c.time c.drivers s ⇒ with_current (value_after M c s) (get_or c.signals s [])
    ∣ get_or c.signals s []

unfoldable pub signals_after : Model → Configuration → List (List ℕ)
signals_after M c = list_below (signal_after M c) (length M.signals)

-- "the value that the signal had before the latest delta step", once that of c is done
unfoldable pub earlier_after : Model → Configuration → List ℕ
earlier_after M c = list_below (current_of c.signals) (length M.signals)

-- "a signal of its set changed value", from the values old to the values new
unfoldable pub changed_in : Model → ℕ → List (List ℕ) → List (List ℕ) → Bool
changed_in M set old new = any_below (λ s. in_set set s && not (eqb (current_of old s) (current_of new s))) (length M.signals)

-- "becomes ready, past its wait [..] becoming ready removes its deadline"
abbrev pub wakes : Model → ℕ → ProcessState → ProcessState
wakes M p q = record { place = next_place M p q.place; standing = ready; deadline = none; fault = q.fault; node = q.node }

-- by the value of b: true wakes it; "A fault in b stops it, its place and deadline kept"; its node is kept "for a wait's condition too"
abbrev pub woken_by : Model → ℕ → ProcessState → Value → ProcessState
woken_by M p q (Err f) = stops q f
woken_by M p q (Ok x) = eqb x 1 ⇒ wakes M p q ∣ q

-- "b, read on the new values, is true or absent"
unfoldable pub woken_if : Model → ℕ → Environment → StatementRecord → ProcessState → ProcessState
woken_if M p e s q = eqb s.b absent ⇒ wakes M p q ∣ woken_by M p q (eval_of M e s.b)

-- "b is worked out only when such a change occurred and no deadline is due". Delayed by 0 it reads the value before the latest delta
-- step, "for a wait's condition, the one under way".
unfoldable pub woken_at : Model → ℕ → Configuration → List (List ℕ) → StatementRecord → ProcessState → ProcessState
woken_at M p c new s q =
    deadline_due c.time q ⇒ wakes M p q
    ∣ changed_in M s.set c.signals new ⇒ woken_if M p (environment_of c.variables new (earlier_after M c)) s q
    ∣ q

-- process p after a delta step that gave the signals the values new
unfoldable pub process_after_delta : Model → Configuration → List (List ℕ) → ℕ → ProcessState
process_after_delta M c new p =
    eqb (process_in c.processes p).standing waiting
    ⇒ woken_at M p c new (statement_at M (process_in c.processes p).place) (process_in c.processes p)
    ∣ process_in c.processes p

unfoldable pub delta_step : Model → Configuration → Configuration
delta_step M c =
    record {
      time = c.time;
      deltas = c.deltas + 1;
      signals = signals_after M c;
      earlier = earlier_after M c;
      drivers = map (taken c.time) c.drivers;
      processes = list_below (process_after_delta M c (signals_after M c)) (length M.processes);
      variables = c.variables;
    }

-- "past values shift by the units passed, the current value standing for each unit from the old time up to the new one"
-- (32 values are kept, so that 32 units shift all of them)
unfoldable pub shifted : ℕ → List ℕ → List ℕ
shifted n h = take 32 (replicate (min n 32) (get_or h 0 0) ++ h)

-- "a time step to the earliest due time, count to 0, no current value changed"; nor an earlier one: "A time step does not alter it."
unfoldable pub time_step : ℕ → Configuration → Configuration
time_step t c =
    record {
      time = t;
      deltas = 0;
      signals = map (shifted (t - c.time)) c.signals;
      earlier = c.earlier;
      drivers = c.drivers;
      processes = c.processes;
      variables = c.variables;
    }
