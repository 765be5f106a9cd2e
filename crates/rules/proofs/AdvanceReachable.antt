-- A delta step and a time step keep a configuration reachable. Assumes nothing.
use mathlib.Core.Path.{◌≡◌, refl, ◌∙◌}
use mathlib.Core.List.{List, [], ◌∷◌, ◌++◌, map}
use mathlib.Core.Option.{Option, none, some}
use mathlib.Core.Logic.{inl}
use Prim.Native.Nat.{ℕ, zero, suc, ◌-◌, ◌≤◌, ◌<◌, min}
use native.Mathlib.Omega.{arith}
use lib.Dec.{eqb, lit≤}
use lib.ListN.{length, get_or, replicate, length-map, length-take, length-append, length-replicate, get_or-replicate}
use lib.Seq.{get_or-take}
use borrow.Author.Tests.{eqb-true, eqb-false}
use Rattle.std.specs.Prelude.{Ok, Err}
use Rattle.base.specs.Below.{All}
use Rattle.base.proofs.Cases.{by_test}
use Rattle.base.proofs.Below.{at_append, map_at, list_length, list_at}
use Rattle.blocks.specs.Records.{bus, Model, signal_at, driver_at, statement_at}
use Rattle.blocks.specs.declared.records.StatementRecord.{StatementRecord}
use Rattle.fields.specs.Fields.{absent, value_ok}
use Rattle.model.specs.Facts.{Facts}
use Rattle.rules.specs.Values.{Value}
use Rattle.rules.specs.Configuration.{ProcessState, Configuration, driver_in, process_in, past_of, current_of, waiting, last_time}
use Rattle.rules.specs.Evaluation.{Environment, environment_of, eval_of}
use Rattle.rules.specs.Failing.{FaultNamed}
use Rattle.rules.specs.Steps.{taken, deadline_due, active, with_current, undriven, value_after, signal_after, signals_after, earlier_after, changed_in, wakes, woken_by, woken_if, woken_at, process_after_delta, delta_step, shifted, time_step}
use Rattle.rules.specs.Orders.{optional, earliest, due_times}
use Rattle.rules.specs.Invariant.{ValueOf, DriverValid, DeadlineValid, ProcessValid, Reachable}
use Rattle.rules.proofs.Failing.{fault_named}
use Rattle.rules.proofs.Waves.{driver_taken, driver_later}
use Rattle.rules.proofs.Driving.{resolved_typed}
use Rattle.rules.proofs.Earliest.{transactions_later, deadlines_later}
use Rattle.rules.proofs.Effects.{own_statement, placed}
use Rattle.rules.proofs.StepReachable.{next_place_lem, stopped_valid}

-- a history of 32 values with another current value
current_length : (v : ℕ) (h : List ℕ) → length h ≡ 32 → length (with_current v h) ≡ 32
current_length v [] e = absurd (omega arith)
current_length v (x ∷ h) e = e

current_each : (P : ℕ → Type 0) (v : ℕ) (h : List ℕ) → P v → ((k : ℕ) → k < 32 → P (get_or h k 0)) → (k : ℕ) → k < 32 → P (get_or (with_current v h) k 0)
current_each P v [] a b zero l = a
current_each P v [] a b (suc k) l = b (suc k) l
current_each P v (x ∷ h) a b zero l = a
current_each P v (x ∷ h) a b (suc k) l = b (suc k) l

-- a bus is a logic signal, and Z is a code
undriven_typed : (M : Model) → Facts M → (s : ℕ) → s < length M.signals → (v : ℕ) → ValueOf (signal_at M s).ty v → ValueOf (signal_at M s).ty (undriven (signal_at M s) v)
unfolding undriven value_ok
undriven_typed M fs s h v t =
    by_test (ValueOf (signal_at M s).ty) (eqb (signal_at M s).kind bus) _ _
    (λ e.
    let k = eqb-true (signal_at M s).kind bus e in
    rw ((fs.signal s h).guarded (omega arith)) refl)
    (λ e. t)

module _ (M : Model) (fs : Facts M) (c : Configuration) (r : Reachable M c) where
  -- the drivers after their due transactions
  pub taken_valid : (k : ℕ) → k < length M.drivers → DriverValid (signal_at M (driver_at M k).signal) c.time (driver_in (map (taken c.time) c.drivers) k)
  taken_valid k h =
      let l : k < length c.drivers = omega (arith, r.drivers) in
      let e : driver_in (map (taken c.time) c.drivers) k ≡ taken c.time (driver_in c.drivers k) = map_at (taken c.time) c.drivers k _ _ l in
      rw e (driver_taken _ c.time (driver_in c.drivers k) (r.each_driver k h))

  module _ (s : ℕ) (h : s < length M.signals) where
    abbrev past : List ℕ
    past = get_or c.signals s []

    value_valid : ValueOf (signal_at M s).ty (value_after M c s)
    value_valid =
        resolved_typed M fs _ s _ h (λ k l e. rw e at (taken_valid k l).current)
        (undriven_typed M fs s h (current_of c.signals s) (r.signal_values s 0 h (omega arith)))

    history_length : length (signal_after M c s) ≡ 32
    unfolding signal_after
    history_length =
        by_test (λ (l : List ℕ). length l ≡ 32) (active M c.time c.drivers s) _ _
        (λ e. current_length (value_after M c s) past (r.histories s h)) (λ e. r.histories s h)

    history_typed : (k : ℕ) → k < 32 → ValueOf (signal_at M s).ty (get_or (signal_after M c s) k 0)
    unfolding signal_after
    history_typed k l =
        by_test (λ (l : List ℕ). ValueOf (signal_at M s).ty (get_or l k 0)) (active M c.time c.drivers s) _ _
        (λ e. current_each (ValueOf (signal_at M s).ty) (value_after M c s) past value_valid (λ k l. r.signal_values s k h l) k l)
        (λ e. r.signal_values s k h l)

  history_at : (s : ℕ) → s < length M.signals → get_or (signals_after M c) s [] ≡ signal_after M c s
  unfolding signals_after
  history_at s h = list_at (signal_after M c) [] (length M.signals) s h

  pub signals_typed : (s k : ℕ) → s < length M.signals → k < 32 → ValueOf (signal_at M s).ty (past_of (signals_after M c) s k)
  signals_typed s k h l = rw (history_at s h) (history_typed s h k l)

  -- what a wait's condition is read on
  abbrev now : Environment
  now = environment_of c.variables (signals_after M c) (earlier_after M c)

  module _ (p : ℕ) (h : p < length M.processes) where
    abbrev q : ProcessState
    q = process_in c.processes p

    abbrev s : StatementRecord
    s = statement_at M q.place

    abbrev Valid : ProcessState → Type 0
    Valid = ProcessValid M p c.time

    module _ (waits : q.standing ≡ waiting) where
      wakes_valid : Valid (wakes M p q)
      wakes_valid =
          let n = next_place_lem M fs p h q.place (placed M c r p h) in
          record {
            from = n.from;
            within = n.below;
            standing = lit≤ tt;
            failed = λ e. absurd (omega arith);
            running = λ e. (r.each_process p h).running (omega (arith, waits));
            at_wait = λ e. absurd (omega arith);
            no_deadline = λ e. refl;
            deadline = tt;
          }

      woken_by_lem : (v : Value) → FaultNamed M now s.b v → Valid (woken_by M p q v)
      woken_by_lem (Err f) g = stopped_valid M p c.time q (r.each_process p h) f (inl g.expression)
      woken_by_lem (Ok x) g = by_test Valid (eqb x 1) _ _ (λ e. wakes_valid) (λ e. r.each_process p h)

      woken_if_lem : Valid (woken_if M p now s q)
      unfolding woken_if
      woken_if_lem =
          by_test Valid (eqb s.b absent) _ _ (λ e. wakes_valid)
          (λ e.
          let w = (own_statement M fs p h q.place (placed M c r p h)).wait ((r.each_process p h).at_wait waits) in
          woken_by_lem (eval_of M now s.b) (fault_named M fs now s.b (w.condition (eqb-false s.b absent e)).node))

      woken_at_lem : Valid (woken_at M p c (signals_after M c) s q)
      unfolding woken_at
      woken_at_lem =
          by_test Valid (deadline_due c.time q) _ _ (λ e. wakes_valid)
          (λ e. by_test Valid (changed_in M s.set c.signals (signals_after M c)) _ _ (λ f. woken_if_lem) (λ f. r.each_process p h))

    process_delta : Valid (process_after_delta M c (signals_after M c) p)
    unfolding process_after_delta
    process_delta =
        by_test Valid (eqb q.standing waiting) _ _
        (λ e. woken_at_lem (eqb-true q.standing waiting e)) (λ e. r.each_process p h)

  processes_delta : (p : ℕ) → p < length M.processes → ProcessValid M p c.time (process_in (delta_step M c).processes p)
  unfolding delta_step
  processes_delta p h =
      rw (list_at (process_after_delta M c (signals_after M c)) _ (length M.processes) p h) (process_delta p h)

  pub delta_reachable : c.deltas < 1000 → Reachable M (delta_step M c)
  unfolding delta_step signals_after earlier_after
  delta_reachable d =
      record {
        time = r.time;
        deltas = omega arith;
        signals = list_length (signal_after M c) (length M.signals);
        histories = λ s h. rw (history_at s h) (history_length s h);
        signal_values = signals_typed;
        earlier = list_length (current_of c.signals) (length M.signals);
        earlier_values = λ s h. rw (list_at (current_of c.signals) 0 (length M.signals) s h) (r.signal_values s 0 h (omega arith));
        drivers = length-map c.drivers _ ∙ r.drivers;
        each_driver = taken_valid;
        processes = list_length _ (length M.processes);
        each_process = processes_delta;
        variables = r.variables;
        variable_values = r.variable_values;
      }

-- a history after n units
pub shifted_length : (n : ℕ) (h : List ℕ) → length h ≡ 32 → length (shifted n h) ≡ 32
unfolding shifted
shifted_length n h e = simp (length-take, length-append, length-replicate) (omega arith)

shifted_each : (P : ℕ → Type 0) (n : ℕ) (h : List ℕ) → length h ≡ 32 → ((k : ℕ) → k < 32 → P (get_or h k 0)) → (k : ℕ) → k < 32 → P (get_or (shifted n h) k 0)
unfolding shifted
shifted_each P n h e p k l =
    rw (get_or-take 32 (replicate (min n 32) (get_or h 0 0) ++ h) k 0 l)
    (at_append P (replicate (min n 32) (get_or h 0 0)) h 0 k
    (λ m. rw (get_or-replicate (min n 32) k (get_or h 0 0) 0 (rw length-replicate at m)) (p 0 (omega arith)))
    (λ j q. p j (omega arith)))

deadline_later : (t s : ℕ) (o : Option ℕ) → All (λ u. s ≤ u) (optional o) → DeadlineValid t o → DeadlineValid s o
deadline_later t s none a d = tt
deadline_later t s (some u) a d = (a.0, d.1)

module _ (M : Model) (c : Configuration) (r : Reachable M c) (t : ℕ) (e : earliest (due_times M c) ≡ some t) where
  process_later : (p : ℕ) → p < length M.processes → ProcessValid M p t (process_in c.processes p)
  process_later p h =
      let f = r.each_process p h in
      record {
        from = f.from;
        within = f.within;
        standing = f.standing;
        failed = f.failed;
        running = f.running;
        at_wait = f.at_wait;
        no_deadline = f.no_deadline;
        deadline = deadline_later c.time t (process_in c.processes p).deadline (deadlines_later M c t e p h) f.deadline;
      }

  shifted_at : (s : ℕ) → s < length M.signals → get_or (time_step t c).signals s [] ≡ shifted (t - c.time) (get_or c.signals s [])
  unfolding time_step
  shifted_at s h = map_at (shifted (t - c.time)) c.signals s [] [] (omega (arith, r.signals))

  -- to the earliest due time, where that is not past the last time
  pub time_reachable : t ≤ last_time → Reachable M (time_step t c)
  unfolding time_step
  time_reachable l =
      record {
        time = l;
        deltas = lit≤ tt;
        signals = length-map c.signals _ ∙ r.signals;
        histories = λ s h. rw (shifted_at s h) (shifted_length (t - c.time) (get_or c.signals s []) (r.histories s h));
        signal_values = λ s k h m. rw (shifted_at s h)
            (shifted_each (ValueOf (signal_at M s).ty) (t - c.time) (get_or c.signals s []) (r.histories s h) (λ k m. r.signal_values s k h m) k m);
        earlier = r.earlier;
        earlier_values = r.earlier_values;
        drivers = r.drivers;
        each_driver = λ k h. driver_later _ c.time _ (r.each_driver k h) t (transactions_later M c t e k h);
        processes = r.processes;
        each_process = process_later;
        variables = r.variables;
        variable_values = r.variable_values;
      }
