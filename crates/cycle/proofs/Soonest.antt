-- The earliest due time of a configuration, found among numbers: each driver's first time and each process's deadline, the
-- largest number standing for none. Assumes nothing.
use mathlib.Core.Path.{◌≡◌, refl, sym, ap, ◌∙◌}
use mathlib.Core.Bool.{true, false}
use mathlib.Core.List.{List, [], ◌∷◌, ◌++◌}
use mathlib.Core.Option.{Option, none, some}
use Prim.Native.Nat.{ℕ, zero, suc, ◌≤◌, ◌<◌, min}
use native.Mathlib.Nat.{eq-or-lt_of_le}
use native.Mathlib.Omega.{arith}
use mathlib.Core.Logic.{⊎_elim}
use lib.Dec.{eqb}
use lib.ListN.{length, get_or}
use borrow.Author.Tests.{eqb-true, ne_eqb, eq-eqb}
use Rattle.base.specs.Below.{any_below, join_below, list_below, All}
use Rattle.base.proofs.Below.{any_fails, any_same}
use Rattle.base.proofs.Cases.{by_test}
use Rattle.blocks.specs.Records.{Model}
use Rattle.rules.specs.Configuration.{Transaction, Configuration, driver_in, process_in}
use Rattle.rules.specs.Steps.{due_in, transaction_due, deadline_at, deadline_due}
use Rattle.rules.specs.Orders.{times_in, optional, least, earliest, due_times, due_now}
use Rattle.base.proofs.All.{all_left, all_right, all_weaker, all_part}
use Rattle.rules.proofs.Earliest.{none_earlier}
use Rattle.rules.proofs.DueTimes.{Within, driver_within, process_within, each_within, due_within, due_after}
use Rattle.waveforms.specs.Pending.{never, first_time, pending_of, no_driver, NoneBefore}
use Rattle.steps.specs.Entries.{deadline_of}
use Rattle.due.specs.Due.{soonest_of, some_is}
use Rattle.cycle.specs.View.{view_of, Valid}
use Rattle.cycle.specs.declared.config.Config.{Config}
use Rattle.cycle.proofs.ViewLaws.{nprocesses_is, ndrivers_is, pending_in, deadline_in, standing_in}

-- the time, or never
abbrev pub or_never : Option ℕ → ℕ
or_never none = never
or_never (some t) = t

least_append : (s : ℕ) (ts us : List ℕ) → least s (ts ++ us) ≡ least (least s ts) us
least_append s [] us = refl
least_append s (t ∷ ts) us = least_append (min s t) ts us

least_most : (s : ℕ) (ts : List ℕ) → least s ts ≤ s
least_most s [] = omega arith
least_most s (t ∷ ts) = omega (arith, least_most (min s t) ts)

-- from a start a, and from never
least_from : (a : ℕ) (ts : List ℕ) → a ≤ never → least a ts ≡ min a (least never ts)
least_from a [] h = omega arith
least_from a (t ∷ ts) h =
    let p : least (min a t) ts ≡ min (min a t) (least never ts) = least_from (min a t) ts (omega arith) in
    let q : least (min never t) ts ≡ min (min never t) (least never ts) = least_from (min never t) ts (omega arith) in
    omega (arith, least_most never ts)

-- a part has one time at most, and t is that time or never
abbrev Stands : ℕ → List ℕ → Type 0
Stands t [] = t ≡ never
Stands t (u ∷ []) = t ≡ u
Stands t (u ∷ (v ∷ us)) = ⊥

one_more : (a t : ℕ) (us : List ℕ) → a ≤ never → Stands t us → min a t ≡ least a us
one_more a t [] h e = omega arith
one_more a t (u ∷ []) h e = rw e
one_more a t (u ∷ (v ∷ us)) h e = absurd e

stand_least : (f : ℕ → ℕ) (g : ℕ → List ℕ) (n : ℕ) → ((k : ℕ) → k < n → Stands (f k) (g k)) → least never (list_below f n) ≡ least never (join_below g n)
unfolding list_below join_below
stand_least f g zero h = refl
stand_least f g (suc n) h =
    let e = stand_least f g n (λ k l. h k (omega arith)) in
    rw (least_append, least_append, e)
    (one_more (least never (join_below g n)) (f n) (g n) (least_most never (join_below g n)) (h n (omega arith)))

earliest_least : (ts : List ℕ) → All (λ u. u ≤ never) ts → or_never (earliest ts) ≡ least never ts
earliest_least [] a = refl
earliest_least (t ∷ ts) a =
    let h : t ≤ never = a.0 in
    let e : min never t ≡ t = omega arith in
    rw e

-- a first transaction, and a deadline, stand for their times
first_stands : (w : List Transaction) → Stands (first_time w) (times_in w)
first_stands [] = refl
first_stands (x ∷ w) = refl

deadline_stands : (t : ℕ) → Stands t (optional (deadline_of t))
deadline_stands t = by_test (λ o. Stands t (optional o)) (eqb t never) _ _ (λ e. eqb-true t never e) (λ e. refl)

module _ (M : Model) (c : Config) (f : Valid M c) where
  abbrev v : Configuration
  v = view_of c

  nprocesses : c.nprocesses ≡ length M.processes
  nprocesses = nprocesses_is M c f.reachable

  ndrivers : c.ndrivers ≡ length M.drivers
  ndrivers = ndrivers_is M c f.reachable

  abbrev firsts : ℕ
  firsts = soonest_of c.due c.ndrivers

  abbrev lasts : ℕ
  lasts = soonest_of c.deadlines c.nprocesses

  abbrev pendings : List ℕ
  pendings = join_below (λ k. times_in (driver_in v.drivers k).pending) c.ndrivers

  abbrev waits : List ℕ
  waits = join_below (λ p. optional (process_in v.processes p).deadline) c.nprocesses

  -- each number stands for the times of its driver, or of its process
  driver_stands : (k : ℕ) → k < c.ndrivers → Stands (get_or c.due k 0) (times_in (driver_in v.drivers k).pending)
  driver_stands k h = rw (f.due k h, pending_in c k h) (first_stands (pending_of c.time (get_or c.drivers k no_driver)))

  process_stands : (p : ℕ) → p < c.nprocesses → Stands (get_or c.deadlines p 0) (optional (process_in v.processes p).deadline)
  process_stands p h = rw (deadline_in c p h) (deadline_stands (get_or c.deadlines p 0))

  -- none is before now
  from_now : (t : ℕ) (us : List ℕ) → Stands t us → All (Within v.time) us → c.time ≤ t
  unfolding view_of
  from_now t [] e a = omega (arith, f.reachable.time)
  from_now t (u ∷ []) e a = omega (arith, a.0.from)
  from_now t (u ∷ (w ∷ us)) e a = absurd e

  pub no_first_before : NoneBefore c.time c.due c.ndrivers
  no_first_before k h = from_now _ (times_in (driver_in v.drivers k).pending) (driver_stands k h) (driver_within M v f.reachable k (rw ndrivers at h))

  pub no_deadline_before : NoneBefore c.time c.deadlines c.nprocesses
  no_deadline_before p h = from_now _ (optional (process_in v.processes p).deadline) (process_stands p h) (process_within M v f.reachable p (rw nprocesses at h))

  drivers_least : firsts ≡ least never pendings
  drivers_least = stand_least _ _ c.ndrivers driver_stands

  deadlines_least : lasts ≡ least never waits
  deadlines_least = stand_least _ _ c.nprocesses process_stands

  times_are : due_times M v ≡ pendings ++ waits
  unfolding due_times
  times_are = rw (nprocesses, ndrivers)

  times_least : min firsts lasts ≡ least never (due_times M v)
  times_least =
      rw (times_are, least_append never pendings waits, drivers_least, deadlines_least)
      (sym (least_from (least never pendings) waits (least_most never pendings)))

  -- the earliest of the numbers is the earliest due time
  pub soonest : min firsts lasts ≡ or_never (earliest (due_times M v))
  soonest =
      times_least
      ∙ sym (earliest_least (due_times M v) (all_weaker (Within v.time) _ (λ u w. omega (arith, w.most)) (due_times M v) (each_within M v f.reachable)))

  -- nothing is due now where every due time is later
  none_now : All (λ u. c.time < u) (due_times M v) → due_now M v ≡ false
  unfolding due_now transaction_due deadline_due view_of
  none_now a =
      let both : All (λ u. c.time < u) (pendings ++ waits) = rw times_are at a in
      let left = all_left (λ u. c.time < u) pendings waits both in
      let right = all_right (λ u. c.time < u) pendings waits both in
      let p = any_fails (λ k. due_in c.time (driver_in v.drivers k).pending) (length M.drivers) (λ k h. later (driver_in v.drivers k).pending (all_part (λ u. c.time < u) (λ k. times_in (driver_in v.drivers k).pending) c.ndrivers k (rw ndrivers h) left)) in
      let q = any_fails (λ p. deadline_at c.time (process_in v.processes p).deadline) (length M.processes) (λ p h. after (process_in v.processes p).deadline (all_part (λ u. c.time < u) (λ p. optional (process_in v.processes p).deadline) c.nprocesses p (rw nprocesses h) right)) in
      rw (p, q)
    where
      later : (w : List Transaction) → All (λ u. c.time < u) (times_in w) → due_in c.time w ≡ false
      later [] h = refl
      later (x ∷ w) h = ne_eqb x.time c.time (λ e. omega (arith, h.0))

      after : (o : Option ℕ) → All (λ u. c.time < u) (optional o) → deadline_at c.time o ≡ false
      after none h = refl
      after (some u) h = ne_eqb u c.time (λ e. omega (arith, h.0))

  all_later : (t : ℕ) → earliest (due_times M v) ≡ some t → c.time < t → All (λ u. c.time < u) (due_times M v)
  all_later t e l = all_weaker (λ u. t ≤ u) _ (λ u h. omega arith) (due_times M v) (none_earlier (due_times M v) t e)

  none_at_all : (ts : List ℕ) → earliest ts ≡ none → All (λ u. c.time < u) ts
  none_at_all [] e = tt
  none_at_all (t ∷ ts) e = let z : ◌≡◌ {A = ℕ} 0 1 = cc in absurd (omega arith)

  -- something is due now exactly where the earliest due time is now
  now_by : (o : Option ℕ) → earliest (due_times M v) ≡ o → due_now M v ≡ eqb (or_never o) c.time
  unfolding view_of
  now_by none e =
      none_now (none_at_all (due_times M v) e) ∙ sym (ne_eqb never c.time (λ q. omega (arith, f.reachable.time)))
  now_by (some t) e = ⊎_elim at_now later (eq-or-lt_of_le (due_within M v f.reachable t e).from)
    where
      at_now : c.time ≡ t → due_now M v ≡ eqb t c.time
      at_now q = (elim (due_now M v) as (λ b. due_now M v ≡ b → due_now M v ≡ eqb t c.time) [
        | true ↦ λ d. d ∙ sym (eq-eqb t c.time (sym q))
        | false ↦ λ d. let l = due_after M v f.reachable t e d in absurd (omega arith)
      ]) refl

      later : c.time < t → due_now M v ≡ eqb t c.time
      later l = none_now (all_later t e l) ∙ sym (ne_eqb t c.time (λ q. omega arith))

  pub due_now_lem : due_now M v ≡ eqb (min firsts lasts) c.time
  due_now_lem = now_by (earliest (due_times M v)) refl ∙ rw soonest

-- a process of some standing, found among the numbers
pub standing_is : (M : Model) (c : Config) (x : ℕ) → Valid M c
    → some_is c.standings c.nprocesses x ≡ any_below (λ p. eqb (process_in (view_of c).processes p).standing x) (length M.processes)
standing_is M c x f =
    rw (← nprocesses M c f)
    (any_same _ _ c.nprocesses (λ p h. ap (λ (y : ℕ). eqb y x) (sym (standing_in c p h))))
