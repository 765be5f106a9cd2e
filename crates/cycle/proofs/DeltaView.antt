-- The struct after a delta step holds the configuration after the delta step of the rules. Assumes nothing.
use mathlib.Core.Path.{◌≡◌, refl, sym, ap, ◌∙◌, subst}
use mathlib.Core.Bool.{Bool, false, not, ◌&&◌, and-false}
use mathlib.Core.List.{List, [], ◌∷◌, map, map-append}
use Prim.Native.Nat.{ℕ, zero, suc, ◌+◌, ◌*◌, ◌≤◌, ◌<◌}
use native.Mathlib.Nat.{add-zero}
use native.Mathlib.Omega.{arith}
use lib.Dec.{eqb}
use lib.ListN.{length, get_or}
use borrow.Author.Tests.{eqb-true, eqb-false, eq-eqb}
use Rattle.base.specs.Below.{any_below, list_below}
use Rattle.base.proofs.Below.{map_at, any_same, any_fewer, list_first, list_same, list_length, list_at}
use Rattle.base.proofs.Cases.{by_test, choices_same}
use Rattle.sets.specs.Sets.{in_set, SetOf}
use Rattle.blocks.specs.Records.{Model, signal_at, statement_at}
use Rattle.blocks.specs.declared.records.StatementRecord.{StatementRecord}
use Rattle.fields.specs.Fields.{absent}
use Rattle.model.specs.Facts.{Facts}
use Rattle.rules.specs.Configuration.{DriverState, ProcessState, Configuration, driver_in, current_of, driving_of, resolved_or, waiting}
use Rattle.rules.specs.Evaluation.{Environment, environment_of, eval_of}
use Rattle.rules.specs.Steps.{transaction_due, taken, active, with_current, undriven, signal_after, signals_after, earlier_after, changed_in, woken_by, woken_if, woken_at, process_after_delta, delta_step}
use Rattle.rules.specs.Orders.{advance_done}
use Rattle.rules.specs.Invariant.{ProcessValid}
use Rattle.rules.proofs.AdvanceReachable.{delta_reachable}
use Rattle.expressions.specs.Reading.{arrays}
use Rattle.waveforms.specs.Pending.{driven_of, pending_of, no_driver}
use Rattle.waveforms.specs.declared.driver.Driver.{Driver}
use Rattle.steps.specs.Entries.{history_of, earlier_of, driving_in}
use Rattle.steps.specs.Delta.{active_in, KeptTo, current_after, ResolvedTo, state_of, entry_of, woken_for, woken_in, after_delta, ProcessesValid, WokenTo}
use Rattle.steps.specs.declared.delta.Processes.{Processes}
use Rattle.steps.proofs.Shifts.{history_at}
use Rattle.steps.proofs.Resolving.{driving_is}
use Rattle.steps.proofs.DeltaProcesses.{condition_there}
use Rattle.cycle.specs.View.{driver_view, process_view, view_of, Valid, outcome_of, Answers}
use Rattle.cycle.specs.declared.config.Config.{Config}
use Rattle.cycle.specs.declared.orders.Answered.{Answered}
use Rattle.cycle.proofs.ViewLaws.{history_in, driver_in_lem, process_in_lem, nsignals_is, ndrivers_is, nprocesses_is, nvariables_is}
use Rattle.cycle.proofs.Advances.{few_signals}
use Rattle.cycle.proofs.ArraysAgree.{value_listed}
use Rattle.cycle.proofs.DeltaDrivers.{slot_of, held_by, TakenSlot, first_due, with_drivers, Taking, time_most_lem}

map_below : {A B : Type 0} (f : A → B) (g : ℕ → A) (n : ℕ) → map f (list_below g n) ≡ list_below (λ i. f (g i)) n
unfolding list_below
map_below f g zero = refl
map_below f g (suc n) = map-append f (list_below g n) (g n ∷ []) ∙ rw (map_below f g n)

-- the current value of a history of the array
current_in_lem : (l : List ℕ) (s : ℕ) → get_or (history_of l s) 0 0 ≡ get_or l (32 * s) 0
current_in_lem l s = history_at l s 0 (omega arith) ∙ rw add-zero

-- a history with another current value
module _ (old new : List ℕ) (s : ℕ) (past : (k : ℕ) → k < 32 → (k ≡ 0 → ⊥) → get_or new (32 * s + k) 0 ≡ get_or old (32 * s + k) 0) where
  abbrev at : List ℕ → ℕ → ℕ
  at l k = get_or l (32 * s + k) 0

  rest_same : list_below (λ j. at new (suc j)) 31 ≡ list_below (λ j. at old (suc j)) 31
  rest_same = list_same _ _ 31 (λ j h. past (suc j) (omega arith) (λ e. omega arith))

  history_first : (l : List ℕ) → history_of l s ≡ get_or l (32 * s) 0 ∷ list_below (λ j. at l (suc j)) 31
  unfolding history_of
  history_first l = list_first (at l) 31 ∙ rw add-zero

  pub history_changed : (v : ℕ) → get_or new (32 * s) 0 ≡ v → history_of new s ≡ with_current v (history_of old s)
  history_changed v e = rw (history_first new, history_first old, e, rest_same)

  pub history_kept : get_or new (32 * s) 0 ≡ get_or old (32 * s) 0 → history_of new s ≡ history_of old s
  history_kept e = rw (history_first new, history_first old, e, rest_same)

abbrev pub processes_of : Config → Processes
processes_of c = record { places = c.places; standings = c.standings; deadlines = c.deadlines; faults = c.faults; nodes = c.nodes }

-- the struct r, its due transactions taken, with new signals and processes, one delta step later
abbrev pub stepped_to : Config → List ℕ → Processes → Config
stepped_to r new ps =
    record {
      time = r.time;
      deltas = r.deltas + 1;
      nsignals = r.nsignals;
      nvariables = r.nvariables;
      ndrivers = r.ndrivers;
      nprocesses = r.nprocesses;
      signals = new;
      currents = r.currents;
      due = r.due;
      drivers = r.drivers;
      places = ps.places;
      standings = ps.standings;
      deadlines = ps.deadlines;
      faults = ps.faults;
      nodes = ps.nodes;
      variables = r.variables;
    }

abbrev pub answered_by : Config → Answered
answered_by r = record { answer = record { refusal = 0; byte = 1; picks = 0; value = 0 }; config = r }

-- what the parts of the step say of r and of the new signals and processes
pub record Parts (M : Model) (c : Config) (active : ℕ) (kept new : List ℕ) (changed : ℕ) (ps : Processes) (r : Config) : Type 0 where
  pub keeps : KeptTo r.signals c.nsignals kept
  pub resolved : ResolvedTo M r.currents c.ndrivers active kept c.nsignals new changed
  pub woken : WokenTo M c.time changed (arrays r.variables new) c.nprocesses (processes_of r) ps

-- the processes of a valid configuration are valid, as the arrays hold them
module _ (M : Model) (c : Config) (f : Valid M c) where
  pub processes_valid : ProcessesValid M c.time c.nprocesses (processes_of c)
  unfolding view_of process_view
  processes_valid =
      record {
        at = λ p h.
            let l : p < length M.processes = omega (arith, nprocesses_is M c f.reachable) in
            rw (process_in_lem c p h) at (f.reachable.each_process p l);
      }

module _ (M : Model) (fs : Facts M) (c : Config) (f : Valid M c) (set : ℕ) (a : SetOf (active_in M c.due c.time c.ndrivers) set)
    (currents dues : List ℕ) (ds : List Driver) (kept new : List ℕ) (changed : ℕ) (ps : Processes)
    (done : (j : ℕ) → j < c.ndrivers → TakenSlot c.time (slot_of c j) (slot_of (with_drivers c currents dues ds) j))
    (parts : Parts M c set kept new changed ps (with_drivers c currents dues ds))
  where
    abbrev v : Configuration
    v = view_of c

    abbrev end : Config
    end = stepped_to (with_drivers c currents dues ds) new ps

    abbrev drivers_now : List DriverState
    drivers_now = map (taken c.time) (view_of c).drivers

    -- the drivers
    drivers_are : list_below (driver_view end) c.ndrivers ≡ map (taken c.time) (list_below (driver_view c) c.ndrivers)
    unfolding driver_view
    drivers_are = list_same _ _ c.ndrivers (λ j h. (done j h).state) ∙ sym (map_below (taken c.time) (driver_view c) c.ndrivers)

    current_is : (k : ℕ) → k < c.ndrivers → driven_of (get_or currents k 0) ≡ (driver_in drivers_now k).current
    unfolding driver_view view_of
    current_is k h =
        let l : k < length (list_below (driver_view c) c.ndrivers) = omega (arith, list_length (driver_view c) c.ndrivers) in
        let e : driver_in drivers_now k ≡ taken c.time (held_by c.time (slot_of c k)) = map_at (taken c.time) (view_of c).drivers k _ _ l ∙ ap (taken c.time) (driver_in_lem c k h) in
        ap (λ (x : DriverState). x.current) ((done k h).state ∙ sym e)

    -- the active signals
    active_is : (s : ℕ) → s < 32 → active M c.time v.drivers s ≡ in_set set s
    unfolding active active_in transaction_due driver_view
    active_is s h =
        rw (← ndrivers_is M c f.reachable)
        (any_same _ _ c.ndrivers
        (λ k l. rw (driver_in_lem c k l, first_due c.time (pending_of c.time (get_or c.drivers k no_driver)) (time_most_lem M c f), ← f.due k l)))
        ∙ sym (a.at s h)

    -- what is kept leaves the histories
    stands : (j : ℕ) → j < 1024 → get_or kept j 0 ≡ get_or c.signals j 0
    stands j h = parts.keeps.other j (λ l. absurd (omega arith))

    past : (s k : ℕ) → s < 32 → k < 32 → (k ≡ 0 → ⊥) → get_or new (32 * s + k) 0 ≡ get_or c.signals (32 * s + k) 0
    past s k l h n = parts.resolved.other s k h (λ e. absurd (n e)) ∙ stands (32 * s + k) (omega arith)

    history_is : (s : ℕ) → s < c.nsignals → history_of new s ≡ signal_after M v s
    unfolding signal_after current_after view_of
    history_is s h =
        let l : s < 32 = omega (arith, few_signals fs f) in
        rw (active_is s l, history_in c s h)
        (by_test (λ x. history_of new s ≡ x) (in_set set s) _ _
        (λ e. history_changed c.signals new s (λ k. past s k l) _ (parts.resolved.current s h ∙ rw (e, stands (32 * s) (omega arith), value)))
        (λ e. history_kept c.signals new s (λ k. past s k l) (parts.resolved.current s h ∙ rw (e, stands (32 * s) (omega arith)))))
      where
        value : resolved_or M (undriven (signal_at M s) (get_or c.signals (32 * s) 0)) (driving_in M currents s c.ndrivers) ≡ resolved_or M (undriven (signal_at M s) (get_or (history_of c.signals s) 0 0)) (driving_of M drivers_now s)
        value = rw (current_in_lem c.signals s, driving_is M currents drivers_now c.ndrivers s (ndrivers_is M c f.reachable) current_is)

    signals_are : list_below (history_of new) c.nsignals ≡ signals_after M v
    unfolding signals_after
    signals_are = list_same _ _ c.nsignals history_is ∙ ap (list_below (signal_after M v)) (nsignals_is M c f.reachable)

    -- the changes of the signals
    current_of_lem : (l : List ℕ) (s : ℕ) → s < c.nsignals → current_of (list_below (history_of l) c.nsignals) s ≡ get_or l (32 * s) 0
    current_of_lem l s h = rw (list_at (history_of l) [] c.nsignals s h) (current_in_lem l s)

    abbrev differs : ℕ → Bool
    differs n = not (eqb (get_or c.signals (32 * n) 0) (get_or new (32 * n) 0))

    differs_not : (n : ℕ) → c.nsignals ≤ n → n < 32 → differs n ≡ false
    differs_not n h l =
        let e : get_or new (32 * n) 0 ≡ get_or c.signals (32 * n) 0 = simp add-zero at (parts.resolved.other n 0 (omega arith) (λ q. h)) ∙ stands (32 * n) (omega arith) in
        rw (eq-eqb (get_or c.signals (32 * n) 0) (get_or new (32 * n) 0) (sym e))

    changed_is : (bits : ℕ) → any_below (λ n. in_set bits n && in_set changed n) 32 ≡ changed_in M bits v.signals (signals_after M v)
    unfolding changed_in view_of
    changed_is bits =
        any_same _ (λ n. in_set bits n && differs n) 32 (λ n h. rw (parts.resolved.changed.at n h, stands (32 * n) (omega arith)))
        ∙ any_fewer _ c.nsignals 32 (few_signals fs f) (λ n h l. rw (differs_not n h l) (and-false (in_set bits n)))
        ∙ rw (← signals_are, ← nsignals_is M c f.reachable) (any_same _ _ c.nsignals (λ n h. rw (current_of_lem c.signals n h, current_of_lem new n h)))

    -- the earlier values
    earlier_is : (s : ℕ) → s < c.nsignals → earlier_of new s ≡ current_of v.signals s
    unfolding view_of
    earlier_is s h =
        parts.resolved.other 32 s (omega (arith, few_signals fs f)) (λ e. few_signals fs f)
        ∙ parts.keeps.earlier s h
        ∙ sym (current_of_lem c.signals s h)

    earlier_are : list_below (earlier_of new) c.nsignals ≡ earlier_after M v
    unfolding earlier_after
    earlier_are = list_same _ _ c.nsignals earlier_is ∙ ap (list_below (current_of v.signals)) (nsignals_is M c f.reachable)

    -- the processes
    value_is : (n : ℕ) → n < length M.nodes → eval_of M (arrays c.variables new) n ≡ eval_of M (environment_of v.variables (signals_after M v) (earlier_after M v)) n
    unfolding view_of
    value_is n h = rw (← signals_are, ← earlier_are) (value_listed M fs c.variables new c.nvariables c.nsignals (nvariables_is M c f.reachable) (nsignals_is M c f.reachable) n h)

    module _ (p : ℕ) (h : p < c.nprocesses) where
      abbrev q : ProcessState
      q = state_of (entry_of (processes_of c) p)

      abbrev w : StatementRecord
      w = statement_at M (get_or c.places p 0)

      abbrev now : Environment
      now = environment_of v.variables (signals_after M v) (earlier_after M v)

      here : p < length M.processes
      here = omega (arith, nprocesses_is M c f.reachable)

      valid : ProcessValid M p c.time q
      valid = (processes_valid M c f).at p h

      condition_is : q.standing ≡ waiting → woken_for M p (arrays c.variables new) w.b q ≡ woken_if M p now w q
      unfolding woken_for woken_if
      condition_is e =
          choices_same (eqb w.b absent) _ _ _ _ (λ z. refl)
          (λ z. ap (woken_by M p q) (value_is w.b (condition_there M fs p c.time here (entry_of (processes_of c) p) valid w refl e (eqb-false w.b absent z))))

      waiting_is : q.standing ≡ waiting → woken_in M p c.time changed (arrays c.variables new) w q ≡ woken_at M p v (signals_after M v) w q
      unfolding woken_in woken_at view_of
      waiting_is e = rw (changed_is w.set, condition_is e)

      process_is : state_of (entry_of ps p) ≡ process_after_delta M v (signals_after M v) p
      unfolding process_after_delta after_delta process_view
      process_is =
          parts.woken.at p h
          ∙ rw (process_in_lem c p h)
          (choices_same (eqb q.standing waiting) _ _ _ _ (λ z. waiting_is (eqb-true q.standing waiting z)) (λ z. refl))

    processes_are : list_below (process_view end) c.nprocesses ≡ list_below (process_after_delta M v (signals_after M v)) (length M.processes)
    unfolding process_view
    processes_are = list_same _ _ c.nprocesses process_is ∙ ap (list_below (process_after_delta M v (signals_after M v))) (nprocesses_is M c f.reachable)

    -- the whole
    view_is : view_of end ≡ delta_step M v
    unfolding view_of delta_step
    view_is = rw (signals_are, earlier_are, drivers_are, processes_are)

    stepped_answers : c.deltas < 1000 → Answers M (answered_by end) (advance_done 1 (delta_step M v))
    unfolding view_of outcome_of
    stepped_answers d =
        record {
          is = ap (advance_done 1) view_is;
          valid = record { reachable = rw view_is (delta_reachable M fs v f.reachable d); due = λ k h. (done k h).due };
        }

module _ (M : Model) (fs : Facts M) (c : Config) (f : Valid M c) (set : ℕ) (a : SetOf (active_in M c.due c.time c.ndrivers) set) where
  -- the step, from what each of its parts says
  pub delta_answers : (k : ℕ) (r : Config) (kept new : List ℕ) (changed : ℕ) (ps : Processes) → c.ndrivers ≤ k → Taking c k r → Parts M c set kept new changed ps r → c.deltas < 1000 → Answers M (answered_by (stepped_to r new ps)) (advance_done 1 (delta_step M (view_of c)))
  delta_answers k r kept new changed ps h t parts d =
      subst
      (λ (x : Config). Parts M c set kept new changed ps x → Answers M (answered_by (stepped_to x new ps)) (advance_done 1 (delta_step M (view_of c))))
      (sym t.rest)
      (λ p. stepped_answers M fs c f set a r.currents r.due r.drivers kept new changed ps (λ j l. t.done j (omega arith)) p d)
      parts

  -- what the loop over the drivers keeps of the processes
  pub processes_kept : (k : ℕ) (r : Config) → Taking c k r → ProcessesValid M c.time c.nprocesses (processes_of r)
  processes_kept k r t = subst (λ (x : Config). ProcessesValid M c.time c.nprocesses (processes_of x)) (sym t.rest) (processes_valid M c f)
