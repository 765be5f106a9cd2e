-- What the arms of the loop behind pick, settle and pick of a set make of the struct, and that it then holds the configuration after the
-- statement's effect.
-- Assumes nothing.
use mathlib.Core.Path.{◌≡◌, refl, ap, ◌∙◌}
use mathlib.Core.Bool.{true, false}
use mathlib.Core.List.{List}
use mathlib.Core.Option.{none, some}
use Prim.Native.Nat.{ℕ, ◌+◌, ◌<◌}
use native.Mathlib.Omega.{arith}
use lib.ListN.{length, get_or, set, length-set}
use lib.Seq.{set-get_or}
use Rattle.std.specs.Prelude.{Some, None}
use Rattle.blocks.specs.Records.{Model}
use Rattle.rules.specs.Configuration.{DriverState, ProcessState, Configuration, driver_in}
use Rattle.rules.specs.Statements.{moved, stops, next_place, process_after, full_after, driver_after, drivers_after, variables_after, applied}
use Rattle.rules.specs.declared.value.Failure.{Failure}
use Rattle.rules.specs.Evaluation.{failure, no_node}
use Rattle.rules.specs.declared.effect.Effect.{Effect}
use Rattle.rules.specs.declared.mechanism.Mechanism.{Mechanism}
use Rattle.rules.specs.declared.effect.Effect.TheVariants.{Skip, Store, Schedule, Jump, Wait, WaitFor, Stop}
use Rattle.rules.specs.declared.driven.Driven.{Driven}
use Rattle.waveforms.specs.Pending.{driven_of, no_driver}
use Rattle.waveforms.specs.Waveform.{driving, ScheduledTo}
use Rattle.waveforms.specs.declared.driver.Driver.{Driver}
use Rattle.steps.specs.Entries.{deadline_of}
use Rattle.cycle.specs.View.{driver_view, process_view, view_of}
use Rattle.cycle.specs.declared.config.Config.{Config}
use Rattle.cycle.proofs.ViewLaws.{driver_in_lem, pending_in, process_in_lem, row_of, place_set, waits_set, waits_for_set, stops_set, driver_set, variables_set}

-- the arrays have their lengths
pub record Sized (c : Config) : Type 0 where
  pub due : length c.due ≡ 64
  pub drivers : length c.drivers ≡ 64
  pub places : length c.places ≡ 16
  pub standings : length c.standings ≡ 16
  pub deadlines : length c.deadlines ≡ 16
  pub faults : length c.faults ≡ 16
  pub nodes : length c.nodes ≡ 16
  pub variables : length c.variables ≡ 64

module _ (c : Config) (due : List ℕ) (drivers : List Driver) (places standings deadlines faults nodes variables : List ℕ) where
  -- the struct with other arrays, but for signals and current values
  abbrev pub changed : Config
  changed =
      record {
        time = c.time;
        deltas = c.deltas;
        nsignals = c.nsignals;
        nvariables = c.nvariables;
        ndrivers = c.ndrivers;
        nprocesses = c.nprocesses;
        signals = c.signals;
        currents = c.currents;
        due = due;
        drivers = drivers;
        places = places;
        standings = standings;
        deadlines = deadlines;
        faults = faults;
        nodes = nodes;
        variables = variables;
      }

  pub changed_sized : Sized c → length due ≡ length c.due → length drivers ≡ length c.drivers → length places ≡ length c.places
      → length standings ≡ length c.standings → length deadlines ≡ length c.deadlines → length faults ≡ length c.faults
      → length nodes ≡ length c.nodes → length variables ≡ length c.variables → Sized changed
  changed_sized s d e p t l f o v =
      record {
        due = d ∙ s.due;
        drivers = e ∙ s.drivers;
        places = p ∙ s.places;
        standings = t ∙ s.standings;
        deadlines = l ∙ s.deadlines;
        faults = f ∙ s.faults;
        nodes = o ∙ s.nodes;
        variables = v ∙ s.variables;
      }

-- what the arms make of the struct
module _ (c : Config) (p : ℕ) where
  abbrev pub moved_to : ℕ → List ℕ → Config
  moved_to i variables = changed c c.due c.drivers (set c.places p i) c.standings c.deadlines c.faults c.nodes variables

  abbrev pub scheduled_to : ℕ → Driver → ℕ → ℕ → Config
  scheduled_to k d t i = changed c (set c.due k t) (set c.drivers k d) (set c.places p i) c.standings c.deadlines c.faults c.nodes c.variables

  abbrev pub waits_until : List ℕ → Config
  waits_until deadlines = changed c c.due c.drivers c.places (set c.standings p 1) deadlines c.faults c.nodes c.variables

  abbrev pub stops_by : Failure → Config
  stops_by f =
      changed c c.due c.drivers c.places (set c.standings p 2) c.deadlines (set c.faults p f.fault) (set c.nodes p f.node) c.variables

  module _ (s : Sized c) where
    pub moved_sized : (i : ℕ) (vs : List ℕ) → length vs ≡ length c.variables → Sized (moved_to i vs)
    moved_sized i vs e = changed_sized c _ _ _ _ _ _ _ _ s refl refl (length-set c.places p i) refl refl refl refl e

    pub scheduled_sized : (k : ℕ) (d : Driver) (t i : ℕ) → Sized (scheduled_to k d t i)
    scheduled_sized k d t i =
        changed_sized c _ _ _ _ _ _ _ _ s (length-set c.due k t) (length-set c.drivers k d) (length-set c.places p i) refl refl refl refl refl

    pub waits_sized : (ds : List ℕ) → length ds ≡ length c.deadlines → Sized (waits_until ds)
    waits_sized ds e = changed_sized c _ _ _ _ _ _ _ _ s refl refl refl (length-set c.standings p 1) e refl refl refl

    pub stops_sized : (f : Failure) → Sized (stops_by f)
    stops_sized f =
        changed_sized c _ _ _ _ _ _ _ _ s refl refl refl (length-set c.standings p 2) refl (length-set c.faults p f.fault) (length-set c.nodes p f.node) refl

same_configuration : {t t' u u' : ℕ} {ss ss' : List (List ℕ)} {es es' : List ℕ} {ds ds' : List DriverState} {ps ps' : List ProcessState} {vs vs' : List ℕ}
    → t ≡ t' → u ≡ u' → ss ≡ ss' → es ≡ es' → ds ≡ ds' → ps ≡ ps' → vs ≡ vs'
    → ◌≡◌ {A = Configuration} (record { time = t; deltas = u; signals = ss; earlier = es; drivers = ds; processes = ps; variables = vs }) (record { time = t'; deltas = u'; signals = ss'; earlier = es'; drivers = ds'; processes = ps'; variables = vs' })
same_configuration t u s e d r v = rw (t, u, s, e, d, r, v)

module _ (M : Model) (c : Config) (p : ℕ) (h : p < c.nprocesses) where
  abbrev q : ProcessState
  q = row_of c.places c.standings c.deadlines c.faults c.nodes p

  abbrev next : ℕ
  next = next_place M p (get_or c.places p 0)

  -- a struct, changed but for signals and current values, holds the configuration after an effect if each of its other lists does
  change_is : (e : Effect) (c' : Config)
      → c' ≡ changed c c'.due c'.drivers c'.places c'.standings c'.deadlines c'.faults c'.nodes c'.variables
      → (view_of c').drivers ≡ drivers_after e c.time (view_of c).drivers
      → (view_of c').processes ≡ set (view_of c).processes p (process_after e (full_after e c.time (view_of c).drivers) c.time next q)
      → (view_of c').variables ≡ variables_after e (view_of c).variables
      → view_of c' ≡ applied M p e (view_of c)
  unfolding applied view_of process_view
  change_is e c' k d r v =
      same_configuration (ap (λ (x : Config). x.time) k) (ap (λ (x : Config). x.deltas) k) (ap (λ (x : Config). (view_of x).signals) k)
      (ap (λ (x : Config). (view_of x).earlier) k) d (r ∙ rw (process_in_lem c p h)) v

  -- one law for each arm
  module _ (s : Sized c) (l : p < 16) where
    at_standing : p < length c.standings
    at_standing = omega (arith, s.standings)

    moved_is : (i : ℕ) (vs : List ℕ) → (view_of (moved_to c p i vs)).processes ≡ set (view_of c).processes p (moved q i)
    unfolding view_of process_view
    moved_is i vs = place_set c.places c.standings c.deadlines c.faults c.nodes c.nprocesses p i (omega (arith, s.places))

    stopped_is : (f : Failure) → (view_of (stops_by c p f)).processes ≡ set (view_of c).processes p (stops q f)
    unfolding view_of process_view
    stopped_is f = stops_set c.places c.standings c.deadlines c.faults c.nodes c.nprocesses p f at_standing (omega (arith, s.faults)) (omega (arith, s.nodes))

    pub skip_view : (i : ℕ) → i ≡ next → view_of (moved_to c p i c.variables) ≡ applied M p Skip (view_of c)
    unfolding view_of driver_view
    skip_view i e = change_is Skip (moved_to c p i c.variables) refl refl (moved_is i c.variables ∙ rw e) refl

    pub store_view : (a v i : ℕ) → a < 64 → i ≡ next → view_of (moved_to c p i (set c.variables a v)) ≡ applied M p (Store a v) (view_of c)
    unfolding view_of driver_view
    store_view a v i b e =
        change_is (Store a v) (moved_to c p i (set c.variables a v)) refl refl (moved_is i (set c.variables a v) ∙ rw e)
        (variables_set c.variables c.nvariables a v (omega (arith, s.variables)))

    pub jump_view : (a : ℕ) → view_of (moved_to c p a c.variables) ≡ applied M p (Jump a) (view_of c)
    unfolding view_of driver_view
    jump_view a = change_is (Jump a) (moved_to c p a c.variables) refl refl (moved_is a c.variables) refl

    pub wait_view : q.deadline ≡ none → view_of (waits_until c p c.deadlines) ≡ applied M p Wait (view_of c)
    unfolding view_of driver_view process_view
    wait_view e =
        change_is Wait (waits_until c p c.deadlines) refl refl
        (waits_set c.places c.standings c.deadlines c.faults c.nodes c.nprocesses p at_standing ∙ rw e) refl

    pub wait_for_view : (d t : ℕ) → t ≡ c.time + d → deadline_of t ≡ some t → view_of (waits_until c p (set c.deadlines p t)) ≡ applied M p (WaitFor d) (view_of c)
    unfolding view_of driver_view process_view
    wait_for_view d t e f =
        change_is (WaitFor d) (waits_until c p (set c.deadlines p t)) refl refl
        (waits_for_set c.places c.standings c.deadlines c.faults c.nodes c.nprocesses p t at_standing (omega (arith, s.deadlines)) ∙ rw (f, e)) refl

    pub stop_view : (f : Failure) → view_of (stops_by c p f) ≡ applied M p (Stop f) (view_of c)
    unfolding view_of driver_view
    stop_view f = change_is (Stop f) (stops_by c p f) refl refl (stopped_is f) refl

    module _ (k d : ℕ) (v : Driven) (m : Mechanism) (kd : k < c.ndrivers) where
      module _ (r : Driver) (to : ScheduledTo (get_or c.drivers k no_driver) d v m (Some r)) where
        fits : false ≡ full_after (Schedule k d v m) c.time (view_of c).drivers
        fits = to.full c.time ∙ rw (pending_in c k kd)

        driver_is : driving c.time (driven_of (get_or c.currents k 0)) r ≡ driver_after m (c.time + d) v (driver_in (view_of c).drivers k)
        unfolding driver_view
        driver_is = to.driver c.time (driven_of (get_or c.currents k 0)) ∙ rw (driver_in_lem c k kd)

        pub schedule_view : (k64 : k < 64) (t i : ℕ) → i ≡ next → view_of (scheduled_to c p k r t i) ≡ applied M p (Schedule k d v m) (view_of c)
        unfolding view_of driver_view process_view
        schedule_view k64 t i e =
            change_is (Schedule k d v m) (scheduled_to c p k r t i) refl
            (driver_set c.time c.currents c.drivers c.ndrivers k r (omega (arith, s.drivers)) ∙ rw driver_is)
            (moved_is i c.variables ∙ rw (← fits, e)) refl

      module _ (to : ScheduledTo (get_or c.drivers k no_driver) d v m None) where
        full : true ≡ full_after (Schedule k d v m) c.time (view_of c).drivers
        full = to.full c.time ∙ rw (pending_in c k kd)

        stays : (view_of c).drivers ≡ set (view_of c).drivers k (driver_after m (c.time + d) v (driver_in (view_of c).drivers k))
        unfolding driver_after
        stays = rw (← full, set-get_or)

        pub full_view : view_of (stops_by c p (failure no_node 3)) ≡ applied M p (Schedule k d v m) (view_of c)
        unfolding view_of driver_view
        full_view = change_is (Schedule k d v m) (stops_by c p (failure no_node 3)) refl stays (stopped_is (failure no_node 3) ∙ rw (← full)) refl
