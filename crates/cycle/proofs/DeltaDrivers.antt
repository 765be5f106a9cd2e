-- The drivers of a delta step: a due transaction becomes its driver's current value and leaves, one driver after the other.
-- Assumes nothing.
use mathlib.Core.Path.{◌≡◌, refl, sym, ap, ◌∙◌, subst}
use mathlib.Core.List.{List, [], ◌∷◌}
use Prim.Native.Nat.{ℕ, ◌+◌, ◌≤◌, ◌<◌}
use native.Mathlib.Decide.{dec_lt}
use native.Mathlib.Omega.{arith}
use lib.Dec.{eqb}
use lib.ListN.{length, get_or, set, drop, length-set}
use lib.Seq.{get_or-set_same, get_or-set_other}
use borrow.Author.Count.{below_none, below_more}
use borrow.Author.Tests.{eq-eqb, ne_eqb}
use Rattle.blocks.specs.Records.{Model}
use Rattle.rules.specs.Configuration.{Transaction, DriverState, last_time}
use Rattle.rules.specs.Steps.{due_in, taken_in, taken}
use Rattle.rules.specs.declared.driven.Driven.{Driven}
use Rattle.waveforms.specs.Pending.{never, driven_of, pending_of, no_driver, first_time}
use Rattle.waveforms.specs.declared.driver.Driver.{Driver}
use Rattle.waveforms.proofs.Drivers.{pending_length, pending_first, first_none, first_some}
use Rattle.cycle.specs.View.{view_of, Valid}
use Rattle.cycle.specs.declared.config.Config.{Config}
use Rattle.cycle.proofs.ViewLaws.{pending_in, ndrivers_is}

-- what the arrays hold of one driver
pub record Slot : Type 0 where
  pub current : ℕ
  pub due : ℕ
  pub driver : Driver

abbrev pub slot_of : Config → ℕ → Slot
slot_of c k = record { current = get_or c.currents k 0; due = get_or c.due k 0; driver = get_or c.drivers k no_driver }

abbrev pub held_by : ℕ → Slot → DriverState
held_by t x = record { current = driven_of x.current; pending = pending_of t x.driver }

-- `due` has the first pending time
abbrev pub Timed : ℕ → Slot → Type 0
Timed t x = x.due ≡ first_time (pending_of t x.driver)

pub record TakenSlot (t : ℕ) (x y : Slot) : Type 0 where
  pub state : held_by t y ≡ taken t (held_by t x)
  pub due : Timed t y

-- a time is none of those that stand for no transaction
pub first_due : (t : ℕ) (w : List Transaction) → t ≤ last_time → due_in t w ≡ eqb (first_time w) t
first_due t [] h = sym (ne_eqb never t (λ e. omega arith))
first_due t (x ∷ w) h = refl

not_due : (t : ℕ) (current : Driven) (w : List Transaction) → (first_time w ≡ t → ⊥) → record { current = current; pending = w } ≡ taken_in t current w
not_due t current [] n = refl
not_due t current (x ∷ w) n = rw (ne_eqb x.time t n)

module _ (t : ℕ) (x : Slot) (m : Timed t x) where
  pub slot_kept : (x.due ≡ t → ⊥) → TakenSlot t x x
  unfolding taken
  slot_kept n = record { state = not_due t (driven_of x.current) (pending_of t x.driver) (λ e. n (m ∙ e)); due = m }

  module _ (h : t ≤ last_time) (d : x.due ≡ t) where
    pub some_pending : 1 ≤ x.driver.count
    some_pending =
        elim (dec_lt 0 x.driver.count) [
          | yes l ↦ l
          | no l ↦ absurd (omega (arith, l, m, first_none t x.driver (omega (arith, l))))
        ]

    at_first : t + get_or x.driver.times 0 0 ≡ t
    at_first = first_some t x.driver (λ e. omega (arith, some_pending)) ∙ sym m ∙ d

    pub slot_taken : (e : Driver) (f : ℕ) → ((t : ℕ) → pending_of t e ≡ drop 1 (pending_of t x.driver)) → f ≡ first_time (pending_of t e) → TakenSlot t x (record { current = get_or x.driver.values 0 0; due = f; driver = e })
    unfolding taken
    slot_taken e f p q =
        record { state = rw (p t, pending_first t x.driver some_pending, eq-eqb (t + get_or x.driver.times 0 0) t at_first); due = q }

-- a configuration with other drivers
abbrev pub with_drivers : Config → List ℕ → List ℕ → List Driver → Config
with_drivers c currents due drivers =
    record {
      time = c.time;
      deltas = c.deltas;
      nsignals = c.nsignals;
      nvariables = c.nvariables;
      ndrivers = c.ndrivers;
      nprocesses = c.nprocesses;
      signals = c.signals;
      currents = currents;
      due = due;
      drivers = drivers;
      places = c.places;
      standings = c.standings;
      deadlines = c.deadlines;
      faults = c.faults;
      nodes = c.nodes;
      variables = c.variables;
    }

-- the first k drivers of c have their due transactions taken, the others are as they were, and so is the rest
pub record Taking (c : Config) (k : ℕ) (r : Config) : Type 0 where
  pub rest : r ≡ with_drivers c r.currents r.due r.drivers
  pub signals : length r.signals ≡ 1056
  pub currents : length r.currents ≡ 64
  pub dues : length r.due ≡ 64
  pub drivers : length r.drivers ≡ 64
  pub done : (j : ℕ) → j < k → TakenSlot c.time (slot_of c j) (slot_of r j)
  pub left : (j : ℕ) → k ≤ j → slot_of r j ≡ slot_of c j

module _ (c : Config) where
  pub taking_none : length c.signals ≡ 1056 → length c.currents ≡ 64 → length c.due ≡ 64 → length c.drivers ≡ 64 → Taking c 0 c
  taking_none s u d r =
      record { rest = refl; signals = s; currents = u; dues = d; drivers = r; done = below_none _; left = λ j h. refl }

  module _ (k : ℕ) (r : Config) (t : Taking c k r) where
    pub taking_same : TakenSlot c.time (slot_of r k) (slot_of r k) → Taking c (k + 1) r
    taking_same x =
        record {
          rest = t.rest;
          signals = t.signals;
          currents = t.currents;
          dues = t.dues;
          drivers = t.drivers;
          done = below_more _ _ t.done (subst (λ (y : Slot). TakenSlot c.time y (slot_of r k)) (t.left k (omega arith)) x);
          left = λ j h. t.left j (omega arith);
        }

    module _ (h : k < 64) (y : Slot) (x : TakenSlot c.time (slot_of r k) y) where
      abbrev next : Config
      next = with_drivers r (set r.currents k y.current) (set r.due k y.due) (set r.drivers k y.driver)

      here : slot_of next k ≡ y
      here =
          let a : k < length r.currents = omega (arith, t.currents) in
          let b : k < length r.due = omega (arith, t.dues) in
          let d : k < length r.drivers = omega (arith, t.drivers) in
          rw (
            get_or-set_same r.currents k y.current 0 a,
            get_or-set_same r.due k y.due 0 b,
            get_or-set_same r.drivers k y.driver no_driver d,
          )

      elsewhere : (j : ℕ) → (j ≡ k → ⊥) → slot_of next j ≡ slot_of r j
      elsewhere j n =
          rw (
            get_or-set_other r.currents k j y.current 0 n,
            get_or-set_other r.due k j y.due 0 n,
            get_or-set_other r.drivers k j y.driver no_driver n,
          )

      taken_here : TakenSlot c.time (slot_of c k) (slot_of next k)
      taken_here = subst (λ (z : Slot). TakenSlot c.time (slot_of c k) z) (sym here) (subst (λ (z : Slot). TakenSlot c.time z y) (t.left k (omega arith)) x)

      pub taking_more : Taking c (k + 1) next
      taking_more =
          record {
            rest = ap (λ (z : Config). with_drivers z next.currents next.due next.drivers) t.rest;
            signals = t.signals;
            currents = length-set r.currents k y.current ∙ t.currents;
            dues = length-set r.due k y.due ∙ t.dues;
            drivers = length-set r.drivers k y.driver ∙ t.drivers;
            done = below_more _ _ (λ j l. subst (λ (z : Slot). TakenSlot c.time (slot_of c j) z) (sym (elsewhere j (λ q. omega arith))) (t.done j l)) taken_here;
            left = λ j l. elsewhere j (λ q. omega arith) ∙ t.left j (omega arith);
          }

pub deltas_kept : (c : Config) (k : ℕ) (r : Config) → Taking c k r → r.deltas ≡ c.deltas
deltas_kept c k r t = ap (λ (x : Config). x.deltas) t.rest

-- the next driver of a valid configuration
module _ (M : Model) (c : Config) (f : Valid M c) where
  pub time_most_lem : c.time ≤ last_time
  unfolding view_of
  time_most_lem = f.reachable.time

  module _ (k : ℕ) (h : k < c.ndrivers) where
    pub few_pending : (get_or c.drivers k no_driver).count ≤ 8
    few_pending =
        let l : k < length M.drivers = omega (arith, ndrivers_is M c f.reachable) in
        let e : length (pending_of c.time (get_or c.drivers k no_driver)) ≤ 8 = rw (pending_in c k h) at (f.reachable.each_driver k l).few in
        omega (arith, pending_length c.time (get_or c.drivers k no_driver))

    module _ (r : Config) (t : Taking c k r) where
      pub next_timed : Timed c.time (slot_of r k)
      next_timed = subst (Timed c.time) (sym (t.left k (omega arith))) (f.due k h)

      pub next_few : (slot_of r k).driver.count ≤ 8
      next_few = subst (λ (x : Slot). x.driver.count ≤ 8) (sym (t.left k (omega arith))) few_pending
