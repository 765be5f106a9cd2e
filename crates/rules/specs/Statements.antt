-- What a pick does: "A pick runs one statement of a ready process and moves the place on".
-- "Statement kinds: 0 null; 1 variable a := b; 2 signal a <= b after c; 3 unless b go to statement a; 4 go to a; 5 wait on the
-- set until b for c, where b or c 65,535 means absent." Kind 6: signal a <= null after c. Kind 7 "is the inertial form of kind 2".
use Rattle.std.specs.Prelude.{Bool, true, false, ◌&&◌, List, [], ◌∷◌, ◌++◌, ℕ, ◌+◌, eqb, ltb, length, set, pos, nat_abs, Ok, Err}
use Rattle.std.proofs.Math.Option.{Option, none, some}
use Rattle.std.specs.Int.Signed.{lt_z}
use Rattle.base.specs.Cases.{◌∣◌, ◌⇒◌, ◌is◌⇒◌}
use Rattle.blocks.specs.Records.{Model, process_at, statement_at}
use Rattle.blocks.specs.declared.records.StatementRecord.{StatementRecord}
use Rattle.fields.specs.Fields.{absent, assigns, end_of}
use Rattle.model.specs.Owners.{driver_for}
use Rattle.rules.specs.declared.driven.Driven.{Driven}
use Rattle.rules.specs.declared.driven.Driven.TheVariants.{To, Null}
use Rattle.rules.specs.declared.mechanism.Mechanism.{Mechanism}
use Rattle.rules.specs.declared.mechanism.Mechanism.TheVariants.{Transport, Inertial}
use Rattle.rules.specs.declared.value.Failure.{Failure}
use Rattle.rules.specs.Values.{Value}
use Rattle.rules.specs.declared.effect.Effect.{Effect}
use Rattle.rules.specs.declared.effect.Effect.TheVariants.{Skip, Store, Schedule, Jump, Wait, WaitFor, Stop}
use Rattle.rules.specs.Configuration.{Transaction, DriverState, ProcessState, Configuration, driver_in, process_in, waiting, stopped}
use Rattle.rules.specs.Evaluation.{Environment, environment_of, failure, no_node, int, eval_of}

-- what follows a value, or stop with its fault and node
abbrev pub with_value : Value → (ℕ → Effect) → Effect
with_value (Err f) next = Stop f
with_value (Ok x) next = next x

-- what follows a delay of 0 or more; fault 2: "c negative", "65,535 for faults 2 and 3"
unfoldable pub with_delay : Value → (ℕ → Effect) → Effect
with_delay v next = with_value v (λ x. lt_z (int x) (pos 0) ⇒ Stop (failure no_node 2) ∣ next (nat_abs (int x)))

-- "Statement kind 7 is the inertial form of kind 2": how an assignment of the kind delays
abbrev pub mechanism_of : ℕ → Mechanism
mechanism_of kind = eqb kind 7 ⇒ Inertial ∣ Transport

-- what statement s of process p does. Kind 2 "works out b, then c"; kind 5 "works out c once".
unfoldable pub effect_by : Model → Environment → ℕ → StatementRecord → Effect
effect_by M e p s =
    s.kind is 0 ⇒ Skip
    ∣ s.kind is 1 ⇒ with_value (eval_of M e s.b) (λ v. Store s.a v)
    ∣ assigns s.kind ⇒ with_value (eval_of M e s.b) (λ v. with_delay (eval_of M e s.c) (λ c. Schedule (driver_for M p s.a) c (To v) (mechanism_of s.kind)))
    ∣ s.kind is 3 ⇒ with_value (eval_of M e s.b) (λ v. eqb v 0 ⇒ Jump s.a ∣ Skip)
    ∣ s.kind is 4 ⇒ Jump s.a
    ∣ s.kind is 5 ⇒ (eqb s.c absent ⇒ Wait ∣ with_delay (eval_of M e s.c) WaitFor)
    ∣ s.kind is 6 ⇒ with_delay (eval_of M e s.c) (λ c. Schedule (driver_for M p s.a) c Null Transport)
    ∣ Skip

-- the effect of the statement at process p's place
unfoldable pub effect_of : Model → Configuration → ℕ → Effect
effect_of M c p =
    effect_by M (environment_of c.variables c.signals c.earlier) p (statement_at M (process_in c.processes p).place)

-- the transactions that a test keeps: it is given each one and those after it
unfoldable pub kept : (Transaction → List Transaction → Bool) → List Transaction → List Transaction
kept test [] = []
kept test (x ∷ after) = test x after ⇒ (x ∷ kept test after) ∣ kept test after

-- the pending transactions before the time at
unfoldable pub before : ℕ → List Transaction → List Transaction
before at = kept (λ x after. ltb x.time at)

-- a waveform of one transaction
abbrev pub only : ℕ → Driven → List Transaction
only at v = record { time = at; value = v } ∷ []

-- "removes pending transactions at time + c or later, and adds one there": kind 6 "with the same waveform rule as kind 2", v being a
-- value or null
unfoldable pub added : List Transaction → ℕ → Driven → List Transaction
added w at v = before at w ++ only at v

-- "has an equal value (null equals no value)"
unfoldable pub equal_value : Driven → Driven → Bool
equal_value (To x) (To y) = eqb x y
equal_value (To x) Null = false
equal_value Null v = false

-- "the new transaction is marked; going back from it, a pending one is marked if the one right after it is marked and has an equal
-- value": the new one is the last
unfoldable pub marked : Transaction → List Transaction → Bool
marked x [] = true
marked x (y ∷ after) = marked y after && equal_value x.value y.value

-- "Unmarked ones are removed": what a delay leaves of a waveform, the new transaction being its last
unfoldable pub left_by : Mechanism → List Transaction → List Transaction
left_by Transport w = w
left_by Inertial w = kept marked w

-- a schedule: "After the removal and the addition of kind 2", what the delay leaves
unfoldable pub scheduled : Mechanism → List Transaction → ℕ → Driven → List Transaction
scheduled m w at v = left_by m (added w at v)

-- fault 3: "a ninth transaction"; kind 7: "The limit of eight is tested after that."
unfoldable pub overflows : List Transaction → Bool
overflows w = ltb 8 (length w)

-- "the last statement is followed by the first"
unfoldable pub next_place : Model → ℕ → ℕ → ℕ
next_place M p i = ltb (i + 1) (end_of M p) ⇒ (i + 1) ∣ (process_at M p).first

abbrev pub moved : ProcessState → ℕ → ProcessState
moved q to = record { place = to; standing = q.standing; deadline = q.deadline; fault = q.fault; node = q.node }

-- "sets the deadline time + c (none if absent) and waits, its place staying on the wait"
abbrev pub waits : ProcessState → Option ℕ → ProcessState
waits q deadline = record { place = q.place; standing = waiting; deadline = deadline; fault = q.fault; node = q.node }

-- "A fault stops the process; its other fields and its drivers stay." "A process keeps the node [..] beside its fault"
abbrev pub stops : ProcessState → Failure → ProcessState
stops q f = record { place = q.place; standing = stopped; deadline = q.deadline; fault = f.fault; node = f.node }

-- process q after an effect at the time t, next being the place after its own. `full` says that a schedule overflows.
abbrev pub process_after : Effect → Bool → ℕ → ℕ → ProcessState → ProcessState
process_after Skip full t next q = moved q next
process_after (Store a v) full t next q = moved q next
process_after (Schedule k d v m) full t next q = full ⇒ stops q (failure no_node 3) ∣ moved q next
process_after (Jump a) full t next q = moved q a
process_after Wait full t next q = waits q none
process_after (WaitFor d) full t next q = waits q (some (t + d))
process_after (Stop f) full t next q = stops q f

abbrev pub variables_after : Effect → List ℕ → List ℕ
variables_after Skip vs = vs
variables_after (Store a v) vs = set vs a v
variables_after (Schedule k d v m) vs = vs
variables_after (Jump a) vs = vs
variables_after Wait vs = vs
variables_after (WaitFor d) vs = vs
variables_after (Stop f) vs = vs

-- a schedule overflows the waveform of its driver
abbrev pub full_after : Effect → ℕ → List DriverState → Bool
full_after Skip t ds = false
full_after (Store a v) t ds = false
full_after (Schedule k d v m) t ds = overflows (scheduled m (driver_in ds k).pending (t + d) v)
full_after (Jump a) t ds = false
full_after Wait t ds = false
full_after (WaitFor d) t ds = false
full_after (Stop f) t ds = false

abbrev pub with_pending : DriverState → List Transaction → DriverState
with_pending d w = record { current = d.current; pending = w }

-- driver k with the transaction, unless that overflows
unfoldable pub driver_after : Mechanism → ℕ → Driven → DriverState → DriverState
driver_after m at v d = overflows (scheduled m d.pending at v) ⇒ d ∣ with_pending d (scheduled m d.pending at v)

abbrev pub drivers_after : Effect → ℕ → List DriverState → List DriverState
drivers_after Skip t ds = ds
drivers_after (Store a v) t ds = ds
drivers_after (Schedule k d v m) t ds = set ds k (driver_after m (t + d) v (driver_in ds k))
drivers_after (Jump a) t ds = ds
drivers_after Wait t ds = ds
drivers_after (WaitFor d) t ds = ds
drivers_after (Stop f) t ds = ds

-- the configuration after an effect of process p
unfoldable pub applied : Model → ℕ → Effect → Configuration → Configuration
applied M p e c =
    record {
      time = c.time;
      deltas = c.deltas;
      signals = c.signals;
      earlier = c.earlier;
      drivers = drivers_after e c.time c.drivers;
      processes =
          set c.processes p
          (process_after e (full_after e c.time c.drivers) c.time (next_place M p (process_in c.processes p).place) (process_in c.processes p));
      variables = variables_after e c.variables;
    }

-- one statement of process p
unfoldable pub stepped : Model → ℕ → Configuration → Configuration
stepped M p c = applied M p (effect_of M c p) c
