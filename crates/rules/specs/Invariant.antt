-- What holds of every configuration that a session can reach.
use Rattle.std.specs.Prelude.{◌≡◌, true, ◌⊎◌, List, [], ◌∷◌, ℕ, ◌+◌, ◌≤◌, ◌<◌, length, get_or}
use Rattle.std.proofs.Math.Option.{Option, none, some}
use Rattle.blocks.specs.Records.{Model, signal_at, variable_at, driver_at, process_at, statement_at}
use Rattle.blocks.specs.declared.records.SignalRecord.{SignalRecord}
use Rattle.fields.specs.Fields.{end_of, value_ok}
use Rattle.fields.specs.Facts.{Spans}
use Rattle.rules.specs.Configuration.{delta_limit, last_time, Transaction, DriverState, ProcessState, Configuration, driver_in, process_in, past_of, ready, waiting, stopped}
use Rattle.rules.specs.Evaluation.{failure, no_node}
use Rattle.rules.specs.Failing.{ExpressionFails}
use Rattle.rules.specs.declared.driven.Driven.{Driven}
use Rattle.rules.specs.declared.driven.Driven.TheVariants.{To, Null}
use Rattle.rules.specs.declared.value.Failure.{Failure}
use Rattle.rules.specs.declared.effect.Effect.{Effect}
use Rattle.rules.specs.declared.effect.Effect.TheVariants.{Skip, Store, Schedule, Jump, Wait, WaitFor, Stop}

-- a value of the type
abbrev pub ValueOf : ℕ → ℕ → Type 0
ValueOf ty v = value_ok ty v ≡ true

-- the latest time that a transaction or a deadline can have: a delay more than the latest that a session reaches
abbrev pub last_due : ℕ
last_due = 1002147483647

-- a waveform: each transaction is later than the one before it, the first not before t, and none past lastDue
abbrev pub Rising : ℕ → List Transaction → Type 0
Rising t [] = Unit {0}
Rising t (x ∷ w) = (t ≤ x.time) × (x.time ≤ last_due) × Rising (x.time + 1) w

-- what a driver of the signal s carries: a value of its type, or null where it is a bus or a register
abbrev pub Carries : SignalRecord → Driven → Type 0
Carries s (To v) = ValueOf s.ty v
Carries s Null = 1 ≤ s.kind

abbrev pub Values : SignalRecord → List Transaction → Type 0
Values s [] = Unit {0}
Values s (x ∷ w) = Carries s x.value × Values s w

pub record DriverValid (s : SignalRecord) (t : ℕ) (d : DriverState) : Type 0 where
  pub current : Carries s d.current
  pub few : length d.pending ≤ 8
  pub rising : Rising t d.pending
  pub values : Values s d.pending

abbrev pub DeadlineValid : ℕ → Option ℕ → Type 0
DeadlineValid t none = Unit {0}
DeadlineValid t (some d) = (t ≤ d) × (d ≤ last_due)

-- what stops a process: an expression's fault at its node, or "65,535 for faults 2 and 3"
abbrev pub Stopping : Model → Failure → Type 0
Stopping M r = ExpressionFails M r ⊎ ((r ≡ failure no_node 2) ⊎ (r ≡ failure no_node 3))

pub record ProcessValid (M : Model) (p t : ℕ) (q : ProcessState) : Type 0 where
  -- its place is one of its statements
  pub from : (process_at M p).first ≤ q.place
  pub within : q.place < end_of M p
  pub standing : q.standing ≤ 2
  -- a stopped process has a fault and its node, any other has "0 without a fault"
  pub failed : q.standing ≡ stopped → Stopping M (failure q.node q.fault)
  pub running : q.standing < stopped → (q.fault ≡ 0) × (q.node ≡ 0)
  -- it waits at a wait
  pub at_wait : q.standing ≡ waiting → (statement_at M q.place).kind ≡ 5
  -- a ready process has no deadline
  pub no_deadline : q.standing ≡ ready → q.deadline ≡ none
  pub deadline : DeadlineValid t q.deadline

pub record Reachable (M : Model) (c : Configuration) : Type 0 where
  pub time : c.time ≤ last_time
  pub deltas : c.deltas ≤ delta_limit
  pub signals : length c.signals ≡ length M.signals
  pub histories : (s : ℕ) → s < length M.signals → length (get_or c.signals s []) ≡ 32
  pub signal_values : (s k : ℕ) → s < length M.signals → k < 32 → ValueOf (signal_at M s).ty (past_of c.signals s k)
  pub earlier : length c.earlier ≡ length M.signals
  pub earlier_values : (s : ℕ) → s < length M.signals → ValueOf (signal_at M s).ty (get_or c.earlier s 0)
  pub drivers : length c.drivers ≡ length M.drivers
  pub each_driver : (k : ℕ) → k < length M.drivers → DriverValid (signal_at M (driver_at M k).signal) c.time (driver_in c.drivers k)
  pub processes : length c.processes ≡ length M.processes
  pub each_process : (p : ℕ) → p < length M.processes → ProcessValid M p c.time (process_in c.processes p)
  pub variables : length c.variables ≡ length M.variables
  pub variable_values : (a : ℕ) → a < length M.variables → ValueOf (variable_at M a).ty (get_or c.variables a 0)

-- What holds of every effect that process p works out.

-- a store to a variable of p, of a value of its type
pub record StoreFits (M : Model) (p a v : ℕ) : Type 0 where
  pub variable : a < length M.variables
  pub own : (variable_at M a).process ≡ p
  pub value : ValueOf (variable_at M a).ty v

-- a transaction on driver k, one of p, of what its signal's drivers carry
pub record ScheduleFits (M : Model) (p k d : ℕ) (v : Driven) : Type 0 where
  pub driver : k < length M.drivers
  pub own : (driver_at M k).process ≡ p
  pub delay : d < 2147483648
  pub value : Carries (signal_at M (driver_at M k).signal) v

-- a jump to a statement of p; a wait at a wait, kind being that of the statement; a stop with an expression's fault, or with 2
abbrev pub EffectFits : Model → ℕ → ℕ → Effect → Type 0
EffectFits M p kind Skip = Unit {0}
EffectFits M p kind (Store a v) = StoreFits M p a v
EffectFits M p kind (Schedule k d v m) = ScheduleFits M p k d v
EffectFits M p kind (Jump a) = Spans M p a
EffectFits M p kind Wait = kind ≡ 5
EffectFits M p kind (WaitFor d) = (kind ≡ 5) × (d < 2147483648)
EffectFits M p kind (Stop r) = ExpressionFails M r ⊎ (r ≡ failure no_node 2)
