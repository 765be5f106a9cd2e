-- The struct after a time step holds the configuration after the time step of the rules: the histories are shifted, and the
-- drivers, their times nearer by the units passed, have the same transactions pending. Assumes nothing.
use mathlib.Core.Path.{◌≡◌, refl, sym, ap, ◌∙◌, subst}
use mathlib.Core.List.{List}
use mathlib.Core.Option.{some}
use Prim.Native.Nat.{ℕ, ◌+◌, ◌-◌, ◌≤◌, ◌<◌}
use native.Mathlib.Decide.{ℕ_discrete}
use native.Mathlib.Omega.{arith}
use lib.ListN.{length, get_or, set, length-set}
use lib.Seq.{get_or-set_same, get_or-set_other}
use Rattle.base.proofs.Below.{list_same}
use Rattle.blocks.specs.Records.{Model}
use Rattle.model.specs.Facts.{Facts}
use Rattle.rules.specs.Steps.{time_step}
use Rattle.rules.specs.Orders.{advance_done, earliest, due_times}
use Rattle.rules.specs.Configuration.{last_time}
use Rattle.rules.proofs.AdvanceReachable.{time_reachable}
use Rattle.rules.proofs.DueTimes.{due_within}
use Rattle.waveforms.specs.Pending.{pending_of, no_driver, first_time}
use Rattle.waveforms.specs.Waveform.{Ahead, Elapsed}
use Rattle.waveforms.specs.declared.driver.Driver.{Driver}
use Rattle.waveforms.proofs.Drivers.{pending_length, ahead_of}
use Rattle.steps.specs.Entries.{earlier_of}
use Rattle.steps.specs.Shift.{ShiftedBy}
use Rattle.steps.proofs.Shifts.{all_shifted}
use Rattle.cycle.specs.View.{driver_view, process_view, view_of, Valid, outcome_of, Answers}
use Rattle.cycle.specs.declared.config.Config.{Config}
use Rattle.cycle.specs.declared.orders.Answered.{Answered}
use Rattle.cycle.proofs.Advances.{few_signals}
use Rattle.cycle.proofs.ViewLaws.{ndrivers_is, pending_in}

abbrev pub driver_at : Config → ℕ → Driver
driver_at c k = get_or c.drivers k no_driver

-- a configuration with other signals and drivers, and at another time
abbrev pub with_past : Config → List ℕ → List Driver → Config
with_past c signals drivers =
    record {
      time = c.time;
      deltas = c.deltas;
      nsignals = c.nsignals;
      nvariables = c.nvariables;
      ndrivers = c.ndrivers;
      nprocesses = c.nprocesses;
      signals = signals;
      currents = c.currents;
      due = c.due;
      drivers = drivers;
      places = c.places;
      standings = c.standings;
      deadlines = c.deadlines;
      faults = c.faults;
      nodes = c.nodes;
      variables = c.variables;
    }

abbrev pub later : Config → ℕ → Config
later c t =
    record {
      time = t;
      deltas = 0;
      nsignals = c.nsignals;
      nvariables = c.nvariables;
      ndrivers = c.ndrivers;
      nprocesses = c.nprocesses;
      signals = c.signals;
      currents = c.currents;
      due = c.due;
      drivers = c.drivers;
      places = c.places;
      standings = c.standings;
      deadlines = c.deadlines;
      faults = c.faults;
      nodes = c.nodes;
      variables = c.variables;
    }

-- of c, n units have elapsed for the first k drivers, the others are as they were, and so is the rest
pub record Elapsing (c : Config) (n k : ℕ) (r : Config) : Type 0 where
  pub rest : r ≡ with_past c c.signals r.drivers
  pub long : length r.drivers ≡ 64
  pub done : (j : ℕ) → j < k → Elapsed n (driver_at c j) (driver_at r j)
  pub left : (j : ℕ) → k ≤ j → driver_at r j ≡ driver_at c j

module _ (c : Config) (n : ℕ) where
  pub elapsing_none : length c.drivers ≡ 64 → Elapsing c n 0 c
  elapsing_none l = record { rest = refl; long = l; done = λ j h. absurd (omega arith); left = λ j h. refl }

  module _ (k : ℕ) (r : Config) (g : Elapsing c n k r) where
    pub next_ahead : Ahead n (driver_at c k) → Ahead n (driver_at r k)
    next_ahead a = subst (Ahead n) (sym (g.left k (omega arith))) a

    -- one driver more
    module _ (h : k < 64) (d : Driver) (p : Elapsed n (driver_at r k) d) where
      abbrev next : Config
      next = with_past r r.signals (set r.drivers k d)

      here : Elapsed n (driver_at c k) (driver_at next k)
      here =
          let l : k < length r.drivers = omega (arith, g.long) in
          rw (get_or-set_same r.drivers k d no_driver l) (subst (λ (e : Driver). Elapsed n e d) (g.left k (omega arith)) p)

      elsewhere : (j : ℕ) → (j ≡ k → ⊥) → driver_at next j ≡ driver_at r j
      elsewhere j q = get_or-set_other r.drivers k j d no_driver q

      pub elapsing_more : Elapsing c n (k + 1) next
      elapsing_more =
          record {
            rest = ap (λ (x : Config). with_past x x.signals next.drivers) g.rest;
            long = length-set r.drivers k d ∙ g.long;
            done = λ j l. elim (ℕ_discrete j k) [
              | yes q ↦ rw q here
              | no q ↦ subst (Elapsed n (driver_at c j)) (sym (elsewhere j q)) (g.done j (omega (arith, q)))
            ];
            left = λ j l. elsewhere j (λ q. omega arith) ∙ g.left j (omega arith);
          }

abbrev pub answered_by : Config → Answered
answered_by r = record { answer = record { refusal = 0; byte = 2; picks = 0; value = 0 }; config = r }

-- to the earliest due time t
module _ (M : Model) (fs : Facts M) (c : Config) (f : Valid M c) (t : ℕ) (e : earliest (due_times M (view_of c)) ≡ some t) (l : t ≤ last_time) where
  -- no pending transaction is nearer than the units passed
  pub each_ahead : (k : ℕ) → k < c.ndrivers → Ahead (t - c.time) (driver_at c k)
  unfolding time_step
  each_ahead k h =
      let m : k < length M.drivers = omega (arith, ndrivers_is M c f.reachable) in
      let g = (time_reachable M (view_of c) f.reachable t e l).each_driver k m in
      ahead_of c.time (driver_at c k) t (rw (pending_in c k h) at g.rising)
      (omega (arith, pending_length c.time (driver_at c k), rw (pending_in c k h) at g.few))

  module _ (new : List ℕ) (s : ShiftedBy c.signals (t - c.time) c.nsignals new) where
    module _ (ds : List Driver) (p : (k : ℕ) → k < c.ndrivers → Elapsed (t - c.time) (driver_at c k) (get_or ds k no_driver)) where
      pending_same : (k : ℕ) → k < c.ndrivers → pending_of t (get_or ds k no_driver) ≡ pending_of c.time (driver_at c k)
      unfolding view_of
      pending_same k m =
          let z : c.time + (t - c.time) ≡ t = omega (arith, (due_within M (view_of c) f.reachable t e).from) in
          rw z at (p k m c.time)

      later_view : view_of (later (with_past c new ds) t) ≡ time_step t (view_of c)
      unfolding view_of time_step driver_view process_view
      later_view =
          rw (
            all_shifted c.signals new (t - c.time) c.nsignals s,
            list_same (earlier_of new) (earlier_of c.signals) c.nsignals (λ j m. s.left (1024 + j) (omega (arith, few_signals fs f))),
            list_same (driver_view (later (with_past c new ds) t)) (driver_view c) c.ndrivers (λ k m. rw (pending_same k m)),
          )

      later_answers : Answers M (answered_by (later (with_past c new ds) t)) (advance_done 2 (time_step t (view_of c)))
      unfolding outcome_of
      later_answers =
          record {
            is = rw later_view;
            valid =
                record {
                  reachable = rw later_view (time_reachable M (view_of c) f.reachable t e l);
                  due = λ k m. f.due k m ∙ ap first_time (sym (pending_same k m));
                };
          }

    -- the step, from what the loop over the drivers leaves
    pub time_stepped_lem : (k : ℕ) (r : Config) → c.ndrivers ≤ k → Elapsing (with_past c new c.drivers) (t - c.time) k r → Answers M (answered_by (later r t)) (advance_done 2 (time_step t (view_of c)))
    time_stepped_lem k r h g =
        subst
        (λ (x : Config). Answers M (answered_by (later x t)) (advance_done 2 (time_step t (view_of c))))
        (sym g.rest)
        (later_answers r.drivers (λ j m. g.done j (omega arith)))
