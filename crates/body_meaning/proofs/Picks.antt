-- What a pick of each made statement comes to: what the text's statement does. Assumes nothing.
use mathlib.Core.Path.{◌≡◌, refl, ap}
use mathlib.Core.Bool.{Bool, true, false}
use mathlib.Core.List.{List}
use mathlib.Core.Option.{none, some}
use Prim.Native.Nat.{ℕ, ◌+◌}
use lib.Dec.{eqb}
use lib.IntN.{pos, nat_abs}
use lib.ListN.{set}
use lib.Seq.{set-get_or}
use lib.Signed.{lt_z}
use Rattle.std.specs.Prelude.{Ok, Err}
use Rattle.base.specs.Cases.{◌∣◌, ◌⇒◌}
use Rattle.blocks.specs.Records.{Model, statement_at}
use Rattle.blocks.specs.declared.records.StatementRecord.{StatementRecord}
use Rattle.rules.specs.declared.driven.Driven.TheVariants.{To}
use Rattle.rules.specs.declared.mechanism.Mechanism.TheVariants.{Transport}
use Rattle.rules.specs.Values.{Value}
use Rattle.rules.specs.declared.effect.Effect.{Effect}
use Rattle.rules.specs.declared.effect.Effect.TheVariants.{Skip, Store, Schedule, Jump, Wait, WaitFor, Stop}
use Rattle.rules.specs.Configuration.{Transaction, DriverState, ProcessState, driver_in}
use Rattle.rules.specs.Evaluation.{failure, no_node, int}
use Rattle.rules.specs.Statements.{with_value, with_delay, effect_by, effect_of, scheduled, left_by, added, overflows, next_place, with_pending, driver_after, applied, stepped}
use Rattle.rules.specs.Steps.{wakes}
use Rattle.meaning.specs.Machine.{Move, goes, waits, faults}
use Rattle.meaning.specs.Text.{after_effect, by_verdict, next, wait, holds, fails, Effect as TextEffect}
use Rattle.body_meaning.specs.Statements.{State, ready_at, waiting_at, stopped_at, environment, given, given_delay, with_variable, with_waveform, update, transaction, verdict}
use Rattle.body_meaning.specs.Picks.{configuration, seen_of, seen, picks}

-- what a pick comes to by the statement's effect, i being the place and j the next
abbrev pub after : ℕ → ℕ → State → Effect → Move State ProcessState ProcessState
after i j s Skip = goes (ready_at j) s
after i j s (Store a v) = goes (ready_at j) (with_variable s a v)
after i j s (Schedule k d v m) =
    overflows (scheduled m (driver_in s.drivers k).pending (s.time + d) v) ⇒ faults (stopped_at i (failure no_node 3)) s
    ∣ goes (ready_at j) (with_waveform s k (scheduled m (driver_in s.drivers k).pending (s.time + d) v))
after i j s (Jump a) = goes (ready_at a) s
after i j s Wait = waits (waiting_at i none) s
after i j s (WaitFor d) = waits (waiting_at i (some (s.time + d))) s
after i j s (Stop f) = faults (stopped_at i f) s

module _ (M : Model) (i : ℕ) (s : State) where
  abbrev j : ℕ
  j = next_place M 0 i

  abbrev with_drivers : List DriverState → State
  with_drivers ds = record { time = s.time; deltas = s.deltas; signals = s.signals; earlier = s.earlier; drivers = ds; variables = s.variables }

  -- a schedule that overflows leaves the driver
  schedule_is : (full : Bool) (k : ℕ) (w : List Transaction)
      → seen_of (full ⇒ stopped_at i (failure no_node 3) ∣ ready_at j) (with_drivers (set s.drivers k (full ⇒ driver_in s.drivers k ∣ with_pending (driver_in s.drivers k) w)))
      ≡ (full ⇒ faults (stopped_at i (failure no_node 3)) s ∣ goes (ready_at j) (with_waveform s k w))
  schedule_is true k w = ap (λ ds. faults (stopped_at i (failure no_node 3)) (with_drivers ds)) (set-get_or s.drivers k _)
  schedule_is false k w = refl

  applied_is : (x : Effect) → seen (applied M 0 x (configuration s (ready_at i))) ≡ after i j s x
  unfolding applied driver_after
  applied_is Skip = refl
  applied_is (Store a v) = refl
  applied_is (Schedule k d v m) = schedule_is (overflows (scheduled m (driver_in s.drivers k).pending (s.time + d) v)) k _
  applied_is (Jump a) = refl
  applied_is Wait = refl
  applied_is (WaitFor d) = refl
  applied_is (Stop f) = refl

  -- a pick of the statement at place i
  pub picked : (r : StatementRecord) → statement_at M i ≡ r → (picks M).move (ready_at i) s ≡ after i j s (effect_by M (environment s) 0 r)
  unfolding stepped effect_of
  picked r e = rw e (applied_is (effect_by M (environment s) 0 r))

  -- where the text's effect is g, the process goes on to the next place
  abbrev pub shown : TextEffect State ProcessState → Move State ProcessState ProcessState
  shown g = after_effect s g (λ t. goes (ready_at j) t)

  -- a value and a delay go on alike, or fail alike
  pub value_is : (v : Value) (f : ℕ → Effect) (g : ℕ → TextEffect State ProcessState) → ((x : ℕ) → after i j s (f x) ≡ shown (g x))
      → after i j s (with_value v f) ≡ shown (given i v g)
  value_is (Err e) f g h = refl
  value_is (Ok x) f g h = h x

  negative_is : (b : Bool) (f : Effect) (g : TextEffect State ProcessState) → after i j s f ≡ shown g
      → after i j s (b ⇒ Stop (failure no_node 2) ∣ f) ≡ shown (b ⇒ TextEffect.fault (stopped_at i (failure no_node 2)) ∣ g)
  negative_is true f g h = refl
  negative_is false f g h = h

  pub delay_is : (v : Value) (f : ℕ → Effect) (g : ℕ → TextEffect State ProcessState) → ((x : ℕ) → after i j s (f x) ≡ shown (g x))
      → after i j s (with_delay v f) ≡ shown (given_delay i v g)
  unfolding with_delay given_delay
  delay_is v f g h = value_is v _ _ (λ x. negative_is (lt_z (int x) (pos 0)) _ _ (h (nat_abs (int x))))

  overflow_is : (full : Bool) (k : ℕ) (w : List Transaction) → (full ⇒ faults (stopped_at i (failure no_node 3)) s ∣ goes (ready_at j) (with_waveform s k w))
      ≡ shown (full ⇒ TextEffect.fault (stopped_at i (failure no_node 3)) ∣ next (with_waveform s k w))
  overflow_is true k w = refl
  overflow_is false k w = refl

  pub transaction_is : (k d x : ℕ) → after i j s (Schedule k d (To x) Transport) ≡ shown (transaction i s k (s.time + d) x)
  unfolding update scheduled left_by
  transaction_is k d x = overflow_is (overflows (added (driver_in s.drivers k).pending (s.time + d) (To x))) k _

  zero_is : (b : Bool) (a : ℕ) → after i j s (b ⇒ Jump a ∣ Skip) ≡ by_verdict s (b ⇒ fails ∣ holds) (goes (ready_at j) s) (goes (ready_at a) s)
  zero_is true a = refl
  zero_is false a = refl

  -- "unless b go to statement a"
  pub unless_is : (v : Value) (a : ℕ) → after i j s (with_value v (λ x. eqb x 0 ⇒ Jump a ∣ Skip)) ≡ by_verdict s (verdict i v) (goes (ready_at j) s) (goes (ready_at a) s)
  unless_is (Err e) a = refl
  unless_is (Ok x) a = zero_is (eqb x 0) a

-- past a wait of statement i the process is ready at the next place
module _ (M : Model) (i : ℕ) where
  abbrev Passes : TextEffect State ProcessState → Type 0
  Passes (next t) = Unit {0}
  Passes (wait w) = wakes M 0 w ≡ ready_at (next_place M 0 i)
  Passes (TextEffect.fault w) = Unit {0}

  pub passes_value : (v : Value) (g : ℕ → TextEffect State ProcessState) → ((x : ℕ) → Passes (g x)) → Passes (given i v g)
  passes_value (Err e) g h = tt
  passes_value (Ok x) g h = h x

  passes_either : (b : Bool) (f g : TextEffect State ProcessState) → Passes f → Passes g → Passes (b ⇒ f ∣ g)
  passes_either true f g h k = h
  passes_either false f g h k = k

  pub passes_delay : (v : Value) (g : ℕ → TextEffect State ProcessState) → ((x : ℕ) → Passes (g x)) → Passes (given_delay i v g)
  unfolding given_delay
  passes_delay v g h = passes_value v _ (λ x. passes_either (lt_z (int x) (pos 0)) _ _ tt (h (nat_abs (int x))))

  pub passes_transaction : (s : State) (k t x : ℕ) → Passes (transaction i s k t x)
  unfolding update
  passes_transaction s k t x = passes_either (overflows (added (driver_in s.drivers k).pending t (To x))) _ _ tt tt

  pub passed : (g : TextEffect State ProcessState) (w : ProcessState) → Passes g → g ≡ wait w → wakes M 0 w ≡ ready_at (next_place M 0 i)
  passed g w h e = rw e at h
