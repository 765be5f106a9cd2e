-- One pick, as the loop behind pick, settle and pick of a set makes it of the struct, and what the loop keeps true. Assumes nothing.
use mathlib.Core.Path.{◌≡◌, refl, sym, ◌∙◌}
use mathlib.Core.Bool.{Bool, true, false, not, ◌&&◌, ◌||◌}
use Prim.Native.Nat.{ℕ, ◌+◌, ◌≤◌, ◌<◌}
use native.Mathlib.Decide.{ℕ_discrete}
use native.Mathlib.Omega.{arith}
use lib.Dec.{eqb, ltb}
use lib.ListN.{length, get_or, set, length-set}
use lib.Seq.{get_or-set_same, get_or-set_other}
use borrow.Author.Tests.{eq-eqb, eqb-true, ne_eqb, ltb-true, not-false}
use Rattle.std.specs.Prelude.{Some, None}
use Rattle.base.proofs.Below.{and_left, and_right, or_left, or_right}
use Rattle.sets.specs.Sets.{in_set}
use Rattle.blocks.specs.Records.{Model, signal_at, driver_at, statement_at}
use Rattle.fields.specs.Fields.{owner_of}
use Rattle.fields.specs.Facts.{Spans}
use Rattle.model.specs.Facts.{Facts}
use Rattle.rules.specs.Configuration.{driver_in, last_time}
use Rattle.rules.specs.Statements.{next_place, applied, effect_by, effect_of, stepped}
use Rattle.rules.specs.Orders.{Settled, is_ready}
use Rattle.rules.specs.Invariant.{DriverValid, EffectFits, StoreFits, ScheduleFits}
use Rattle.rules.specs.declared.driven.Driven.{Driven}
use Rattle.rules.specs.declared.value.Failure.{Failure}
use Rattle.rules.specs.Evaluation.{failure, no_node}
use Rattle.rules.specs.declared.effect.Effect.{Effect}
use Rattle.rules.specs.declared.mechanism.Mechanism.{Mechanism}
use Rattle.rules.specs.declared.effect.Effect.TheVariants.{Skip, Store, Schedule, Jump, Wait, WaitFor, Stop}
use Rattle.rules.proofs.Effects.{own_statement, placed, effect_fits}
use Rattle.rules.proofs.StepReachable.{stepped_reachable}
use Rattle.rules.proofs.Turns.{Turned, over, past, next}
use Rattle.expressions.specs.Reading.{arrays}
use Rattle.waveforms.specs.Pending.{never, driven_of, word_for, pending_of, first_time, no_driver}
use Rattle.waveforms.proofs.Held.{held}
use Rattle.waveforms.specs.Waveform.{Waveform, ScheduledTo}
use Rattle.waveforms.specs.declared.driver.Driver.{Driver}
use Rattle.waveforms.proofs.Drivers.{waveform_of}
use Rattle.cycle.specs.View.{view_of, Valid, StepsTo}
use Rattle.cycle.specs.declared.config.Config.{Config}
use Rattle.cycle.proofs.DeltaDrivers.{time_most_lem, few_pending}
use Rattle.cycle.proofs.ArraysAgree.{effect_viewed}
use Rattle.cycle.proofs.ViewLaws.{pending_in, place_in, standing_in, ready_in_lem, deadline_in, ndrivers_is, nprocesses_is}
use Rattle.cycle.proofs.Changes.{Sized, moved_to, scheduled_to, waits_until, stops_by, moved_sized, scheduled_sized, waits_sized, stops_sized, skip_view, store_view, jump_view, wait_view, wait_for_view, stop_view, schedule_view, full_view}

-- process p at its place
module _ (M : Model) (fs : Facts M) (c : Config) (f : Valid M c) (p : ℕ) (h : p < c.nprocesses) where
  abbrev place : ℕ
  place = get_or c.places p 0

  process_there : p < length M.processes
  process_there = omega (arith, nprocesses_is M c f.reachable)

  spans : Spans M p place
  spans = rw (place_in c p h) at (placed M (view_of c) f.reachable p process_there)

  pub statement_there : place < length M.statements
  statement_there = omega (arith, spans.below, (fs.process p process_there).within)

  -- what the statement does, worked out on the arrays, is its effect
  effect_is : effect_by M (arrays c.variables c.signals) (owner_of M place) (statement_at M place) ≡ effect_of M (view_of c) p
  unfolding effect_of
  effect_is =
      rw ((fs.process p process_there).owner place spans, place_in c p h)
      (effect_viewed M fs c f.reachable p (statement_at M place) (own_statement M fs p process_there place spans))

-- One pick at the time `now`: process p of the struct is ready, and e is what its statement does.
pub record Turn (M : Model) (now : ℕ) (p : ℕ) (c : Config) (e : Effect) : Type 0 where
  pub facts : Facts M
  pub clock : c.time ≡ now
  pub sized : Sized c
  pub valid : Valid M c
  pub here : p < c.nprocesses
  pub idle : get_or c.standings p 0 ≡ 0
  pub effect : e ≡ effect_by M (arrays c.variables c.signals) (owner_of M (get_or c.places p 0)) (statement_at M (get_or c.places p 0))

-- the struct c' is c after a pick of p, with arrays of their lengths
pub record Stepped (M : Model) (p : ℕ) (c c' : Config) : Type 0 where
  pub to : StepsTo M p c c'
  pub time : c'.time ≡ c.time
  pub nprocesses : c'.nprocesses ≡ c.nprocesses
  pub sized : Sized c'

module _ {M : Model} {now p : ℕ} {c : Config} {e : Effect} (t : Turn M now p c e) where
  abbrev fs : Facts M
  fs = t.facts

  abbrev f : Valid M c
  f = t.valid

  abbrev s : Sized c
  s = t.sized

  abbrev in_nprocesses : p < c.nprocesses
  in_nprocesses = t.here

  pub in_16 : p < 16
  in_16 = omega (arith, t.here, nprocesses_is M c f.reachable, fs.totals.processes)

  pub process_in_model : p < length M.processes
  process_in_model = process_there M fs c f p in_nprocesses

  pub place_spans : Spans M p (get_or c.places p 0)
  place_spans = spans M fs c f p in_nprocesses

  pub early : now ≤ last_time
  early = rw (← t.clock) (time_most_lem M c f)

  -- what the effect names is there
  fits : EffectFits M p (statement_at M (get_or c.places p 0)).kind e
  fits = rw (place_in c p in_nprocesses, ← effect_is M fs c f p in_nprocesses, ← t.effect) at (effect_fits M (view_of c) f.reachable fs p process_in_model)

  pub in_variables : (a v : ℕ) → e ≡ Store a v → a < 64
  in_variables a v x = let g : StoreFits M p a v = rw x at fits in omega (arith, g.variable, fs.totals.variables)

  pub wait_small : (d : ℕ) → e ≡ WaitFor d → d < 2147483648
  wait_small d x = let g : EffectFits M p (statement_at M (get_or c.places p 0)).kind (WaitFor d) = rw x at fits in g.1

  -- the pick is made
  pub is_ready_lem : is_ready p (view_of c) ≡ true
  is_ready_lem = ready_in_lem c p in_nprocesses ∙ eq-eqb _ 0 t.idle

  step_is : applied M p e (view_of c) ≡ stepped M p (view_of c)
  unfolding stepped
  step_is = rw (t.effect, effect_is M fs c f p in_nprocesses)

  abbrev Next : Config → Type 0
  Next c' = Stepped M p c c'

  turned : (c' : Config) → view_of c' ≡ applied M p e (view_of c) → c'.time ≡ c.time → c'.nprocesses ≡ c.nprocesses → Sized c'
      → ((k : ℕ) → k < c'.ndrivers → get_or c'.due k 0 ≡ first_time (pending_of c'.time (get_or c'.drivers k no_driver)))
      → Next c'
  turned c' v ct cn sized due =
      record {
        to =
            record {
              is = v ∙ step_is;
              valid = record { reachable = rw (v, step_is) (stepped_reachable M fs (view_of c) f.reachable p process_in_model is_ready_lem); due = due };
            };
        time = ct;
        nprocesses = cn;
        sized = sized;
      }

  -- one law for each arm
  abbrev following : ℕ
  following = next_place M p (get_or c.places p 0)

  pub skip_turn : e ≡ Skip → (i : ℕ) → i ≡ following → Next (moved_to c p i c.variables)
  skip_turn x i g =
      turned (moved_to c p i c.variables) (rw x (skip_view M c p in_nprocesses s in_16 i g)) refl refl (moved_sized c p s i c.variables refl) f.due

  pub store_turn : (a v : ℕ) → e ≡ Store a v → (i : ℕ) → i ≡ following → Next (moved_to c p i (set c.variables a v))
  store_turn a v x i g =
      turned (moved_to c p i (set c.variables a v)) (rw x (store_view M c p in_nprocesses s in_16 a v i (in_variables a v x) g)) refl refl
      (moved_sized c p s i (set c.variables a v) (length-set c.variables a v)) f.due

  pub jump_turn : (a : ℕ) → e ≡ Jump a → Next (moved_to c p a c.variables)
  jump_turn a x =
      turned (moved_to c p a c.variables) (rw x (jump_view M c p in_nprocesses s in_16 a)) refl refl (moved_sized c p s a c.variables refl) f.due

  pub wait_turn : e ≡ Wait → Next (waits_until c p c.deadlines)
  wait_turn x =
      let g = (f.reachable.each_process p process_in_model).no_deadline (standing_in c p in_nprocesses ∙ t.idle) in
      turned (waits_until c p c.deadlines) (rw x (wait_view M c p in_nprocesses s in_16 (sym (deadline_in c p in_nprocesses) ∙ g))) refl refl
      (waits_sized c p s c.deadlines refl) f.due

  pub wait_for_turn : (d : ℕ) → e ≡ WaitFor d → (u : ℕ) → u ≡ now + d → Next (waits_until c p (set c.deadlines p u))
  wait_for_turn d x u g =
      let o : u ≡ never → ⊥ = λ q. omega (arith, early, wait_small d x) in
      let k : u ≡ c.time + d = rw t.clock g in
      turned (waits_until c p (set c.deadlines p u)) (rw x (wait_for_view M c p in_nprocesses s in_16 d u k (rw (ne_eqb u never o)))) refl refl
      (waits_sized c p s (set c.deadlines p u) (length-set c.deadlines p u)) f.due

  pub stop_turn : (i : Failure) → e ≡ Stop i → Next (stops_by c p i)
  stop_turn i x = turned (stops_by c p i) (rw x (stop_view M c p in_nprocesses s in_16 i)) refl refl (stops_sized c p s i) f.due

  module _ (k d : ℕ) (v : Driven) (w : Mechanism) (x : e ≡ Schedule k d v w) where
    schedule_fits : ScheduleFits M p k d v
    schedule_fits = rw x at fits

    in_ndrivers : k < c.ndrivers
    in_ndrivers = omega (arith, schedule_fits.driver, ndrivers_is M c f.reachable)

    pub in_drivers : k < 64
    in_drivers = omega (arith, schedule_fits.driver, fs.totals.drivers)

    -- the driver has a waveform
    pub waveform : Waveform (get_or c.drivers k no_driver)
    waveform =
        let g : DriverValid _ (view_of c).time (driver_in (view_of c).drivers k) = f.reachable.each_driver k schedule_fits.driver in
        waveform_of c.time (get_or c.drivers k no_driver) (view_of c).time (rw (pending_in c k in_ndrivers) at g.rising) (few_pending M c f k in_ndrivers)

    -- what is scheduled is held as a word
    pub word_held : driven_of (word_for v) ≡ v
    word_held = held (signal_at M (driver_at M k).signal) v schedule_fits.value

    pub full_turn : ScheduledTo (get_or c.drivers k no_driver) d v w None → Next (stops_by c p (failure no_node 3))
    full_turn to = turned (stops_by c p (failure no_node 3)) (rw x (full_view M c p in_nprocesses s in_16 k d v w in_ndrivers to)) refl refl (stops_sized c p s (failure no_node 3)) f.due

    pub schedule_turn : (r : Driver) → ScheduledTo (get_or c.drivers k no_driver) d v w (Some r) → (u i : ℕ) → u ≡ first_time (pending_of now r) → i ≡ following
        → Next (scheduled_to c p k r u i)
    schedule_turn r to u i a b =
        turned (scheduled_to c p k r u i) (rw x (schedule_view M c p in_nprocesses s in_16 k d v w in_ndrivers r to in_drivers u i b)) refl refl
        (scheduled_sized c p s k r u i) first
      where
        first : (j : ℕ) → j < c.ndrivers → get_or (set c.due k u) j 0 ≡ first_time (pending_of c.time (get_or (set c.drivers k r) j no_driver))
        first j l = elim (ℕ_discrete j k) [
          | yes q ↦
              let m : k < length c.due = omega (arith, s.due, in_drivers) in
              let o : k < length c.drivers = omega (arith, s.drivers, in_drivers) in
              rw (q, get_or-set_same c.due k u 0 m, get_or-set_same c.drivers k r no_driver o, t.clock) a
          | no q ↦ rw (get_or-set_other c.due k j u 0 q, get_or-set_other c.drivers k j r no_driver q) (f.due j l)
        ]

-- the test of the loop
pub goes_on : (n count p end : ℕ) → (ltb n count && ltb p end) ≡ true → (n < count) × (p < end)
goes_on n count p end h = (ltb-true n count (and_left (ltb n count) (ltb p end) h), ltb-true p end (and_right (ltb n count) (ltb p end) h))

passed : (a b : Bool) → (not a || not b) ≡ true → (a && b) ≡ false
passed true true h = sym h
passed true false h = refl
passed false b h = refl

-- What the loop keeps true: from process p of the struct c, with n picks made, it comes to what the whole comes to from c₀.
pub record Turning (M : Model) (set stride count now first : ℕ) (c₀ : Config) (p n : ℕ) (c : Config) : Type 0 where
  pub whole : c.nprocesses ≡ c₀.nprocesses
  pub most : c₀.nprocesses ≤ 16
  pub clock : c.time ≡ now
  pub sized : Sized c
  pub valid : Valid M c
  pub same : (s : Settled) → Turned M set stride count c₀.nprocesses p n (view_of c) s → Turned M set stride count c₀.nprocesses first 0 (view_of c₀) s

pub few_processes : {M : Model} → Facts M → {c : Config} → Valid M c → c.nprocesses ≤ 16
few_processes {M} fs {c} f = omega (arith, nprocesses_is M c f.reachable, fs.totals.processes)

pub turning_none : (M : Model) → Facts M → (set stride count first : ℕ) (c : Config) → Sized c → Valid M c → Turning M set stride count c.time first c first 0 c
turning_none M fs set stride count first c s f =
    record {
      whole = refl;
      most = few_processes fs f;
      clock = refl;
      sized = s;
      valid = f;
      same = λ s t. t;
    }

module _ {M : Model} {set stride count now first : ℕ} {c₀ : Config} {p n : ℕ} {c : Config} (t : Turning M set stride count now first c₀ p n c) where
  -- a process that is not ready, or not in the set, is passed
  pub turning_past : n < count → p < c₀.nprocesses → (not (eqb (get_or c.standings p 0) 0) || not (in_set set p)) ≡ true
      → Turning M set stride count now first c₀ (p + 1) n c
  turning_past few here idle =
      record {
        whole = t.whole;
        most = t.most;
        clock = t.clock;
        sized = t.sized;
        valid = t.valid;
        same = λ s d. t.same s (past few here (rw (ready_in_lem c p (omega (arith, t.whole))) (passed (eqb (get_or c.standings p 0) 0) (in_set set p) idle)) d);
      }

  -- a ready process of the set is picked
  pub turning_next : n < count → p < c₀.nprocesses → is_ready p (view_of c) ≡ true → in_set set p ≡ true → (c' : Config) → Stepped M p c c'
      → Turning M set stride count now first c₀ (p + stride) (n + 1) c'
  turning_next few here ready m c' d =
      record {
        whole = d.nprocesses ∙ t.whole;
        most = t.most;
        clock = d.time ∙ t.clock;
        sized = d.sized;
        valid = d.to.valid;
        same = λ s e. t.same s (next few here ready m (rw d.to.is at e));
      }

  -- the loop is over
  pub turning_end : (ltb n count && ltb p c₀.nprocesses) ≡ false → Turned M set stride count c₀.nprocesses first 0 (view_of c₀) (record { picks = n; end = view_of c })
  turning_end o = t.same _ (over o)

  -- the loop goes on at process p: it is there, and one of 16
  module _ (go : (ltb n count && ltb p c₀.nprocesses) ≡ true) where
    few_made : n < count
    few_made = (goes_on n count p c₀.nprocesses go).0

    pub inside : p < c.nprocesses
    inside = omega (arith, (goes_on n count p c₀.nprocesses go).1, t.whole)

    -- it is ready and in the set, so it is picked; e is what its statement does
    module _ (fs : Facts M) {member : Bool} (has : member ≡ in_set set p) (picked : (not (eqb (get_or c.standings p 0) 0) || not member) ≡ false) where
      ready : get_or c.standings p 0 ≡ 0
      ready = eqb-true _ _ (not-false _ (or_left (not (eqb (get_or c.standings p 0) 0)) (not member) picked))

      pub turn_made : {e : Effect} → e ≡ effect_by M (arrays c.variables c.signals) (owner_of M (get_or c.places p 0)) (statement_at M (get_or c.places p 0)) → Turn M now p c e
      turn_made e = record { facts = fs; clock = t.clock; sized = t.sized; valid = t.valid; here = inside; idle = ready; effect = e }

      pub turning_on : (c' : Config) → Stepped M p c c' → Turning M set stride count now first c₀ (p + stride) (n + 1) c'
      turning_on c' d =
          turning_next few_made (omega (arith, inside, t.whole)) (ready_in_lem c p inside ∙ eq-eqb _ 0 ready)
          (sym has ∙ not-false _ (or_right (not (eqb (get_or c.standings p 0) 0)) (not member) picked)) c' d

      -- the loop goes on with the struct that the arm of the effect leaves
      pub turning_made : {e : Effect} → e ≡ effect_by M (arrays c.variables c.signals) (owner_of M (get_or c.places p 0)) (statement_at M (get_or c.places p 0)) → {c' : Config}
          → (Turn M now p c e → Stepped M p c c') → Turning M set stride count now first c₀ (p + stride) (n + 1) c'
      turning_made e step = turning_on _ (step (turn_made e))

    pub turning_over : {member : Bool} → member ≡ in_set set p → (not (eqb (get_or c.standings p 0) 0) || not member) ≡ true → Turning M set stride count now first c₀ (p + 1) n c
    turning_over has idle = turning_past few_made (omega (arith, inside, t.whole)) (rw (← has) idle)
