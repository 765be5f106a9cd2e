-- What a delta step does: it is done where something is due now, wakes by deadlines and by signals that a due transaction drives, and
-- leaves nothing due now. Assumes nothing.
use mathlib.Core.Path.{◌≡◌, refl, sym, ◌∙◌}
use mathlib.Core.Bool.{true, false, not, ◌&&◌, true≢false}
use mathlib.Core.List.{List, []}
use mathlib.Core.Logic.{◌⊎◌, inl, inr}
use Prim.Native.Nat.{ℕ, ◌<◌}
use native.Mathlib.Omega.{arith}
use lib.Dec.{eqb}
use lib.ListN.{length}
use borrow.Author.Tests.{eqb-true, eqb-false, eq-eqb}
use Rattle.std.specs.Prelude.{Ok, Err}
use Rattle.base.specs.Below.{any_below}
use Rattle.base.proofs.Below.{and_left, and_right, map_at, list_at}
use Rattle.base.proofs.Cases.{by_test, either_way}
use Rattle.base.proofs.Course.{found}
use Rattle.sets.specs.Sets.{in_set}
use Rattle.blocks.specs.Records.{Model, driver_at, statement_at}
use Rattle.fields.specs.Fields.{absent}
use Rattle.leads.specs.Leads.{waits_on}
use Rattle.rules.specs.Values.{Value}
use Rattle.rules.specs.Configuration.{ProcessState, Configuration, driver_in, process_in, current_of, ready, waiting}
use Rattle.rules.specs.Evaluation.{environment_of, eval_of}
use Rattle.rules.specs.Steps.{transaction_due, taken, deadline_at, deadline_due, active, signal_after, signals_after, earlier_after, changed_in, woken_by, woken_if, woken_at, process_after_delta, delta_step}
use Rattle.rules.specs.Orders.{is_ready, is_stopped, due_now, delta_stepped}
use Rattle.rules.specs.Invariant.{Reachable}
use Rattle.rules.proofs.Effects.{placed}
use Rattle.bounded.proofs.Waves.{none_due}
use Rattle.bounded.proofs.Outcomes.{Deltas}
use Rattle.bounded.proofs.Wiring.{some_of_lem, Due, Expires, Waits}

module _ (M : Model) (c : Configuration) (x : Deltas M c) where
  pub delta_leaves : (delta_stepped M c).after.time ≡ c.time
  unfolding delta_step
  delta_leaves = rw x.step

  pub why : ((k : ℕ) × Due M k c) ⊎ ((q : ℕ) × Expires M q c)
  unfolding due_now
  why =
      either_way (any_below (λ k. transaction_due c.time (driver_in c.drivers k)) (length M.drivers))
      (λ t. let f = found _ _ t in inl (f.at, record { there = f.below; now = f.passes }))
      (λ t.
      let f = found (λ p. deadline_due c.time (process_in c.processes p)) _ (rw t at x.due) in
      inr (f.at, record { there = f.below; now = f.passes }))

module _ (M : Model) (c : Configuration) (r : Reachable M c) (x : Deltas M c) where
  abbrev new : List (List ℕ)
  new = signals_after M c

  -- a signal that changed has a driver with a transaction due now
  changed : (s : ℕ) → s < length M.signals → not (eqb (current_of c.signals s) (current_of new s)) ≡ true → active M c.time c.drivers s ≡ true
  unfolding signals_after signal_after
  changed s h n =
      either_way (active M c.time c.drivers s) (λ t. t)
      (λ t.
      let same : current_of new s ≡ current_of c.signals s = rw (list_at (signal_after M c) [] (length M.signals) s h, t) in
      absurd (true≢false (sym n ∙ rw (same, eq-eqb (current_of c.signals s) (current_of c.signals s) refl))))

  module _ (q : ℕ) (h : q < length M.processes) where
    abbrev state : ProcessState
    state = process_in c.processes q

    abbrev wait : ℕ
    wait = state.place

    -- a driver with a transaction due now, of a signal in some wait set of q
    abbrev Heard : Type 0
    Heard = (k : ℕ) × Due M k c × Waits M q (driver_at M k).signal

    -- a signal of a wait's set changed
    heard : state.standing ≡ waiting → changed_in M (statement_at M wait).set c.signals new ≡ true → Heard
    unfolding changed_in active waits_on
    heard w t =
        let set = (statement_at M wait).set in
        let f = found (λ s. in_set set s && not (eqb (current_of c.signals s) (current_of new s))) (length M.signals) t in
        let g = found (λ k. eqb (driver_at M k).signal f.at && transaction_due c.time (driver_in c.drivers k)) (length M.drivers)
        (changed f.at f.below (and_right (in_set set f.at) _ f.passes)) in
        let same : (driver_at M g.at).signal ≡ f.at = eqb-true _ _ (and_left _ _ g.passes) in (
          g.at,
          record { there = g.below; now = and_right (eqb (driver_at M g.at).signal f.at) _ g.passes },
          some_of_lem M q wait (λ s. eqb s.kind 5 && in_set s.set (driver_at M g.at).signal) (placed M c r q h)
              (rw (eq-eqb (statement_at M wait).kind 5 ((r.each_process q h).at_wait w), same) (and_left _ _ f.passes)),
        )

    pub woken : is_ready q (delta_step M c) ≡ true → Expires M q c ⊎ Heard
    unfolding delta_step is_ready process_after_delta woken_at
    woken =
        let P : ProcessState → Type 0 = λ z. eqb z.standing ready ≡ true → Expires M q c ⊎ Heard in
        let not_ready : P state = λ t. absurd (true≢false (sym t ∙ x.quiet q h)) in
        rw (list_at (process_after_delta M c new) (process_in [] 0) (length M.processes) q h)
        (by_test P (eqb state.standing waiting) _ _
        (λ w. by_test P (deadline_due c.time state) _ _
        (λ t _. inl (record { there = h; now = t }))
        (λ t. by_test P (changed_in M (statement_at M wait).set c.signals new) _ _
        (λ t _. inr (heard (eqb-true state.standing waiting w) t))
        (λ t. not_ready)))
        (λ w. not_ready))

    -- no deadline is due now
    abbrev Past : ProcessState → Type 0
    Past z = deadline_at c.time z.deadline ≡ false

    past_by : (v : Value) → Past state → Past (woken_by M q state v)
    past_by (Err f) h = h
    past_by (Ok z) h = by_test Past (eqb z 1) _ _ (λ t. refl) (λ t. h)

    -- a process that does not wait is ready or stopped, and neither is there
    waits : state.standing ≡ waiting
    unfolding is_ready is_stopped
    waits =
        let a : state.standing ≡ 0 → ⊥ = eqb-false state.standing 0 (x.quiet q h) in
        let b : state.standing ≡ 2 → ⊥ = eqb-false state.standing 2 (x.running q h) in
        omega (arith, (r.each_process q h).standing)

    past : Past (process_after_delta M c new q)
    unfolding process_after_delta woken_at woken_if deadline_due
    past =
        rw (eq-eqb state.standing waiting waits)
        (by_test Past (deadline_at c.time state.deadline) _ _ (λ t. refl)
        (λ t. by_test Past (changed_in M (statement_at M wait).set c.signals new) _ _
        (λ u. by_test Past (eqb (statement_at M wait).b absent) _ _ (λ a. refl)
        (λ a. past_by (eval_of M (environment_of c.variables new (earlier_after M c)) (statement_at M wait).b) t))
        (λ u. t)))

  pub no_deadline : (q : ℕ) → Expires M q (delta_step M c) → ⊥
  unfolding delta_step deadline_due
  no_deadline q d =
      let n = rw (list_at (process_after_delta M c new) (process_in [] 0) (length M.processes) q d.there) at d.now in
      true≢false (sym n ∙ past q d.there)

  pub no_transaction_lem : (k : ℕ) → Due M k (delta_step M c) → ⊥
  unfolding delta_step
  no_transaction_lem k d =
      let l : k < length c.drivers = omega (arith, d.there, r.drivers) in
      let n = rw (map_at (taken c.time) c.drivers k (driver_in [] 0) (driver_in [] 0) l) at d.now in
      true≢false (sym n ∙ none_due c.time (driver_in c.drivers k) (r.each_driver k d.there).rising)
