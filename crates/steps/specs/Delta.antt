-- What the parts of a delta step promise, over the arrays of the struct.
use Rattle.std.specs.Prelude.{◌≡◌, Bool, not, ◌&&◌, List, ℕ, ◌+◌, ◌*◌, ◌≤◌, ◌<◌, eqb, length, get_or}
use Rattle.base.specs.Below.{any_below}
use Rattle.base.specs.Cases.{◌∣◌, ◌⇒◌}
use Rattle.sets.specs.Sets.{in_set, SetOf}
use Rattle.blocks.specs.Records.{Model, signal_at, driver_at, statement_at}
use Rattle.blocks.specs.declared.records.StatementRecord.{StatementRecord}
use Rattle.fields.specs.Fields.{absent}
use Rattle.rules.specs.declared.moment.Moment.TheVariants.{Now, DeltaAgo}
use Rattle.rules.specs.Configuration.{ProcessState, resolved_or, waiting}
use Rattle.rules.specs.Evaluation.{Environment, eval_of}
use Rattle.rules.specs.Steps.{undriven, deadline_due, wakes, woken_by}
use Rattle.rules.specs.Invariant.{ProcessValid}
use Rattle.expressions.specs.Reading.{signal_slot}
use Rattle.steps.specs.Entries.{deadline_of, driving_in}
use Rattle.steps.specs.declared.delta.Process.{Process}
use Rattle.steps.specs.declared.delta.Processes.{Processes}

-- one of the first n drivers drives signal s and has its first transaction due at t
unfoldable pub active_in : Model → List ℕ → ℕ → ℕ → ℕ → Bool
active_in M due t n s = any_below (λ k. eqb (driver_at M k).signal s && eqb (get_or due k 0) t) n

-- the earlier values of the first n signals are their current ones, and all else is as it was
pub record KeptTo (old : List ℕ) (n : ℕ) (new : List ℕ) : Type 0 where
  pub long : length new ≡ length old
  pub earlier : (s : ℕ) → s < n → get_or new (signal_slot s DeltaAgo) 0 ≡ get_or old (signal_slot s Now) 0
  pub other : (j : ℕ) → (1024 ≤ j → 1024 + n ≤ j) → get_or new j 0 ≡ get_or old j 0

-- the current value of signal s: where it is active, the resolution of the current values of those of the ndrivers drivers that are on
unfoldable pub current_after : Model → List ℕ → ℕ → ℕ → List ℕ → ℕ → ℕ
current_after M currents ndrivers active signals s =
    in_set active s ⇒ resolved_or M (undriven (signal_at M s) (get_or signals (32 * s) 0)) (driving_in M currents s ndrivers)
    ∣ get_or signals (32 * s) 0

-- the first n signals have their new current values, all else is as it was, and the set has the signals that changed
pub record ResolvedTo (M : Model) (currents : List ℕ) (ndrivers active : ℕ) (old : List ℕ) (n : ℕ) (new : List ℕ) (set : ℕ) : Type 0 where
  pub current : (s : ℕ) → s < n → get_or new (32 * s) 0 ≡ current_after M currents ndrivers active old s
  pub other : (s k : ℕ) → k < 32 → (k ≡ 0 → n ≤ s) → get_or new (32 * s + k) 0 ≡ get_or old (32 * s + k) 0
  pub changed : SetOf (λ s. not (eqb (get_or old (32 * s) 0) (get_or new (32 * s) 0))) set

-- the state of one process, and that of process p of the arrays
abbrev pub state_of : Process → ProcessState
state_of q = record { place = q.place; standing = q.standing; deadline = deadline_of q.deadline; fault = q.fault; node = q.node }

abbrev pub entry_of : Processes → ℕ → Process
entry_of ps p =
    record {
      place = get_or ps.places p 0;
      standing = get_or ps.standings p 0;
      deadline = get_or ps.deadlines p 0;
      fault = get_or ps.faults p 0;
      node = get_or ps.nodes p 0;
    }

-- "b, read on the new values, is true or absent": wokenIf by the number of b
unfoldable pub woken_for : Model → ℕ → Environment → ℕ → ProcessState → ProcessState
woken_for M p e b q = eqb b absent ⇒ wakes M p q ∣ woken_by M p q (eval_of M e b)

-- "if its deadline is due, or a signal of its set changed value and b, read on the new values, is true or absent": `changed` is
-- the set of the signals that changed, and e what b is read on
unfoldable pub woken_in : Model → ℕ → ℕ → ℕ → Environment → StatementRecord → ProcessState → ProcessState
woken_in M p t changed e s q =
    deadline_due t q ⇒ wakes M p q
    ∣ any_below (λ n. in_set s.set n && in_set changed n) 32 ⇒ woken_for M p e s.b q
    ∣ q

-- process p, whose state is q, after a delta step
unfoldable pub after_delta : Model → ℕ → ℕ → ℕ → Environment → ProcessState → ProcessState
after_delta M p t changed e q = eqb q.standing waiting ⇒ woken_in M p t changed e (statement_at M q.place) q ∣ q

-- the first n processes are valid
pub record ProcessesValid (M : Model) (t n : ℕ) (ps : Processes) : Type 0 where
  pub at : (p : ℕ) → p < n → ProcessValid M p t (state_of (entry_of ps p))

-- the first n processes are those after a delta step, and the entries past them stay
pub record WokenTo (M : Model) (t changed : ℕ) (e : Environment) (n : ℕ) (ps r : Processes) : Type 0 where
  pub at : (p : ℕ) → p < n → state_of (entry_of r p) ≡ after_delta M p t changed e (state_of (entry_of ps p))
  pub left : (p : ℕ) → n ≤ p → entry_of r p ≡ entry_of ps p
