-- A pick of a ready process keeps a configuration reachable. Assumes nothing.
use mathlib.Core.Path.{◌≡◌, refl, ◌∙◌}
use mathlib.Core.Bool.{Bool, true, false}
use mathlib.Core.List.{List}
use mathlib.Core.Option.{Option, none, some}
use mathlib.Core.Logic.{inl, inr, ⊎_elim}
use Prim.Native.Nat.{ℕ, ◌+◌, ◌≤◌, ◌<◌}
use native.Mathlib.Omega.{arith}
use lib.Dec.{ltb, lit≤}
use lib.ListN.{length, get_or, length-set}
use borrow.Author.Tests.{ltb-true, eqb-true}
use Rattle.base.proofs.Cases.{by_test}
use Rattle.blocks.specs.Records.{Model, signal_at, variable_at, driver_at, statement_at}
use Rattle.fields.specs.Fields.{end_of}
use Rattle.fields.specs.Facts.{Spans}
use Rattle.model.specs.Facts.{Facts}
use Rattle.rules.specs.declared.value.Failure.{Failure}
use Rattle.rules.specs.declared.effect.Effect.{Effect}
use Rattle.rules.specs.declared.effect.Effect.TheVariants.{Skip, Store, Schedule, Jump, Wait, WaitFor, Stop}
use Rattle.rules.specs.Configuration.{DriverState, ProcessState, Configuration, driver_in, process_in, ready, last_time}
use Rattle.rules.specs.Evaluation.{failure, no_node}
use Rattle.rules.specs.Statements.{next_place, moved, waits, stops, process_after, variables_after, drivers_after, applied, stepped, effect_of}
use Rattle.rules.specs.Orders.{is_ready}
use Rattle.rules.specs.Invariant.{ValueOf, DriverValid, DeadlineValid, ProcessValid, Stopping, EffectFits, Reachable}
use Rattle.rules.proofs.Lists.{set_each}
use Rattle.rules.proofs.Waves.{driver_scheduled}
use Rattle.rules.proofs.Effects.{effect_fits, placed}

-- the place after a statement of process p is one of its statements
pub next_place_lem : (M : Model) → Facts M → (p : ℕ) → p < length M.processes → (i : ℕ) → Spans M p i → Spans M p (next_place M p i)
unfolding next_place
next_place_lem M fs p h i s =
    by_test (Spans M p) (ltb (i + 1) (end_of M p)) _ _
    (λ e. (fs.process p h).next i s (ltb-true (i + 1) (end_of M p) e)) (λ e. (fs.process p h).first)

-- a ready process, and what an effect makes of it
module _ (M : Model) (p t : ℕ) (q : ProcessState) (f : ProcessValid M p t q) where
  pub stopped_valid : (s : Failure) → Stopping M s → ProcessValid M p t (stops q s)
  stopped_valid s h =
      record {
        from = f.from;
        within = f.within;
        standing = lit≤ tt;
        failed = λ e. h;
        running = λ e. absurd (omega arith);
        at_wait = λ e. absurd (omega arith);
        no_deadline = λ e. absurd (omega arith);
        deadline = f.deadline;
      }

  module _ (idle : q.standing ≡ ready) where
    moved_valid : (i : ℕ) → Spans M p i → ProcessValid M p t (moved q i)
    moved_valid i s =
        record {
          from = s.from;
          within = s.below;
          standing = f.standing;
          failed = f.failed;
          running = f.running;
          at_wait = λ e. absurd (omega arith);
          no_deadline = f.no_deadline;
          deadline = f.deadline;
        }

    waits_valid : (statement_at M q.place).kind ≡ 5 → (o : Option ℕ) → DeadlineValid t o → ProcessValid M p t (waits q o)
    waits_valid k o d =
        record {
          from = f.from;
          within = f.within;
          standing = lit≤ tt;
          failed = λ e. absurd (omega arith);
          running = λ e. f.running (omega arith);
          at_wait = λ e. k;
          no_deadline = λ e. absurd (omega arith);
          deadline = d;
        }

    process_after_lem : (e : Effect) (full : Bool) (next : ℕ) → t ≤ last_time → Spans M p next → EffectFits M p (statement_at M q.place).kind e → ProcessValid M p t (process_after e full t next q)
    process_after_lem Skip full next h s x = moved_valid next s
    process_after_lem (Store a v) full next h s x = moved_valid next s
    process_after_lem (Schedule k d v m) true next h s x = stopped_valid (failure no_node 3) (inr (inr refl))
    process_after_lem (Schedule k d v m) false next h s x = moved_valid next s
    process_after_lem (Jump a) full next h s x = moved_valid a x
    process_after_lem Wait full next h s x = waits_valid x none tt
    process_after_lem (WaitFor d) full next h s x = waits_valid x.0 (some (t + d)) (omega arith, omega (arith, x.1))
    process_after_lem (Stop r) full next h s x = stopped_valid r (⊎_elim inl (λ e. inr (inl e)) x)

-- the variables and the drivers after an effect
length_variables : (e : Effect) (vs : List ℕ) → length (variables_after e vs) ≡ length vs
length_variables Skip vs = refl
length_variables (Store a v) vs = length-set vs a v
length_variables (Schedule k d v m) vs = refl
length_variables (Jump a) vs = refl
length_variables Wait vs = refl
length_variables (WaitFor d) vs = refl
length_variables (Stop n) vs = refl

length_drivers : (e : Effect) (t : ℕ) (ds : List DriverState) → length (drivers_after e t ds) ≡ length ds
length_drivers Skip t ds = refl
length_drivers (Store a v) t ds = refl
length_drivers (Schedule k d v m) t ds = length-set ds k _
length_drivers (Jump a) t ds = refl
length_drivers Wait t ds = refl
length_drivers (WaitFor d) t ds = refl
length_drivers (Stop n) t ds = refl

module _ (M : Model) (p kind : ℕ) where
  module _ (vs : List ℕ) (long : length vs ≡ length M.variables) (typed : (a : ℕ) → a < length M.variables → ValueOf (variable_at M a).ty (get_or vs a 0)) where
    variables_after_lem : (e : Effect) → EffectFits M p kind e → (a : ℕ) → a < length M.variables → ValueOf (variable_at M a).ty (get_or (variables_after e vs) a 0)
    variables_after_lem Skip x = typed
    variables_after_lem (Store a v) x = set_each (λ a v. ValueOf (variable_at M a).ty v) vs (length M.variables) a v 0 long (λ h. x.value) typed
    variables_after_lem (Schedule k d v m) x = typed
    variables_after_lem (Jump a) x = typed
    variables_after_lem Wait x = typed
    variables_after_lem (WaitFor d) x = typed
    variables_after_lem (Stop n) x = typed

  abbrev ValidAt : ℕ → ℕ → DriverState → Type 0
  ValidAt t k d = DriverValid (signal_at M (driver_at M k).signal) t d

  module _ (t : ℕ) (early : t ≤ last_time) (ds : List DriverState) (long : length ds ≡ length M.drivers) (valid : (k : ℕ) → k < length M.drivers → ValidAt t k (driver_in ds k)) where
    drivers_after_lem : (e : Effect) → EffectFits M p kind e → (k : ℕ) → k < length M.drivers → ValidAt t k (driver_in (drivers_after e t ds) k)
    drivers_after_lem Skip x = valid
    drivers_after_lem (Store a v) x = valid
    drivers_after_lem (Schedule k d v m) x =
        set_each (ValidAt t) ds (length M.drivers) k _ _ long
        (λ h. driver_scheduled _ t (driver_in ds k) (valid k h) m (t + d) v (omega arith) (omega (arith, x.delay)) x.value) valid
    drivers_after_lem (Jump a) x = valid
    drivers_after_lem Wait x = valid
    drivers_after_lem (WaitFor d) x = valid
    drivers_after_lem (Stop n) x = valid

module _ (M : Model) (fs : Facts M) (c : Configuration) (r : Reachable M c) (p : ℕ) (h : p < length M.processes) where
  abbrev q : ProcessState
  q = process_in c.processes p

  abbrev Fits : Effect → Type 0
  Fits = EffectFits M p (statement_at M q.place).kind

  pub applied_reachable : q.standing ≡ ready → (e : Effect) → Fits e → Reachable M (applied M p e c)
  unfolding applied
  applied_reachable i e x =
      record {
        time = r.time;
        deltas = r.deltas;
        signals = r.signals;
        histories = r.histories;
        signal_values = r.signal_values;
        earlier = r.earlier;
        earlier_values = r.earlier_values;
        drivers = length_drivers e c.time c.drivers ∙ r.drivers;
        each_driver = drivers_after_lem M p _ c.time r.time c.drivers r.drivers r.each_driver e x;
        processes = length-set c.processes p _ ∙ r.processes;
        each_process =
            set_each (λ p q. ProcessValid M p c.time q) c.processes (length M.processes) p _ _ r.processes
            (λ h. process_after_lem M p c.time q (r.each_process p h) i e _ _ r.time (next_place_lem M fs p h q.place (placed M c r p h)) x)
            r.each_process;
        variables = length_variables e c.variables ∙ r.variables;
        variable_values = variables_after_lem M p _ c.variables r.variables r.variable_values e x;
      }

  pub stepped_reachable : is_ready p c ≡ true → Reachable M (stepped M p c)
  unfolding stepped is_ready
  stepped_reachable i = applied_reachable (eqb-true q.standing ready i) (effect_of M c p) (effect_fits M c r fs p h)
