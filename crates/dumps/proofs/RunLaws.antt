-- Laws of a run: what each order does to the time, that two time steps in a row do not occur, that the times of the settled configurations
-- rise and how many there are. Assumes nothing.
use mathlib.Core.Path.{◌≡◌, refl, ap, ◌∙◌}
use mathlib.Core.Bool.{Bool, true, false, not}
use mathlib.Core.List.{List, [], ◌∷◌, ◌++◌, map}
use mathlib.Core.Option.{Option, none, some}
use Prim.Native.Nat.{ℕ, zero, suc, ◌+◌, ◌-◌, ◌/◌, ◌≤◌, ◌<◌, min}
use native.Mathlib.Omega.{arith}
use borrow.Author.Tests.{eqb-true, eqb-false, ne_eqb}
use lib.Dec.{eqb, ltb}
use lib.ListN.{length, get_or, replicate}
use lib.Seq.{get_or-take}
use Rattle.base.specs.Below.{All}
use Rattle.base.specs.Cases.{◌∣◌, ◌⇒◌}
use Rattle.base.proofs.Below.{and_true_false, map_at, list_same}
use Rattle.base.proofs.Cases.{by_test, either_way}
use Rattle.blocks.specs.Records.{Model}
use Rattle.model.specs.Facts.{Facts}
use Rattle.rules.specs.Configuration.{Transaction, Configuration, current_of, driver_in, process_in, empty, last_time}
use Rattle.rules.specs.Invariant.{Reachable}
use Rattle.rules.specs.Orders.{Outcome, Settled, refused, picked, times_in, optional, earliest, due_times, due_now, delta_stepped, time_stepped, lowest_ready, settled_from, settled, set_bits, picked_set, read_of}
use Rattle.rules.specs.Statements.{applied, stepped}
use Rattle.rules.specs.Steps.{due_in, transaction_due, deadline_at, deadline_due, delta_step, shifted, time_step}
use Rattle.rules.proofs.DueTimes.{no_transaction_lem, no_deadline, due_after}
use Rattle.rules.proofs.Earliest.{earliest_is, due_each}
use Rattle.rules.proofs.Outcomes.{Refusal, Pick, pick_refused, pick_done_lem, pick_is, Delta, delta_refused, delta_done, delta_is, Time, time_refused, time_done, time_is, PickSet, set_refused, set_done_lem, pick_set_is, Read, read_refused, read_done, read_is}
use Rattle.rules.proofs.Sets.{by_members}
use Rattle.session.specs.Lists.{Order, is_known, performed}
use Rattle.session.proofs.InTime.{performed_reachable}
use Rattle.vcd.specs.ReadBack.{TimesRise}
use Rattle.vcd.specs.Vcd.{Row, row_in}
use Rattle.dumps.specs.Run.{steps_time, settled_in, row_at}

-- after a time step to the earliest due time something is due
transaction_other : (t : ℕ) (w : List Transaction) → due_in t w ≡ false → All (λ u. u ≡ t → ⊥) (times_in w)
transaction_other t [] h = tt
transaction_other t (x ∷ w) h = (eqb-false x.time t h, tt)

deadline_other : (t : ℕ) (o : Option ℕ) → deadline_at t o ≡ false → All (λ u. u ≡ t → ⊥) (optional o)
deadline_other t none h = tt
deadline_other t (some u) h = (eqb-false u t h, tt)

due_then : (M : Model) (c : Configuration) (t : ℕ) → earliest (due_times M c) ≡ some t → due_now M (time_step t c) ≡ true
due_then M c t e = either_way (due_now M (time_step t c)) (λ h. h) (λ h. absurd (none_due h refl))
  where
    none_due : due_now M (time_step t c) ≡ false → t ≡ t → ⊥
    none_due h =
        earliest_is (λ u. u ≡ t → ⊥) (due_times M c) t e
        (due_each M c (λ u. u ≡ t → ⊥)
        (λ k l. transaction_other t (driver_in c.drivers k).pending (unfold time_step transaction_due in no_transaction_lem M (time_step t c) h k l))
        (λ p l. deadline_other t (process_in c.processes p).deadline (unfold time_step deadline_due in no_deadline M (time_step t c) h p l)))

-- what an order does to the time: it stays, or a time step leaves it, which occurs where nothing is due now and after which something is
pub data Moves (M : Model) (c : Configuration) : Bool → Configuration → Type 0 where
  stays : (d : Configuration) → d.time ≡ c.time → Moves M c false d
  leaves : (t : ℕ) → c.time < t → due_now M c ≡ false → due_now M (time_step t c) ≡ true → Moves M c true (time_step t c)

stepped_time : (M : Model) (p : ℕ) (c : Configuration) → (stepped M p c).time ≡ c.time
unfolding stepped applied
stepped_time M p c = refl

settled_time : (M : Model) (n k : ℕ) (c : Configuration) → (settled_from M k n c).end.time ≡ c.time
unfolding settled_from
settled_time M zero k c = refl
settled_time M (suc n) k c =
    by_test (λ (s : Settled). s.end.time ≡ c.time) (ltb (lowest_ready M c) (length M.processes)) _ _
    (λ e. settled_time M n (suc k) (stepped M (lowest_ready M c) c) ∙ stepped_time M (lowest_ready M c) c)
    (λ e. refl)

module _ (M : Model) (o : Order) (c : Configuration) (r : Reachable M c) where
  abbrev Moving : Outcome → Type 0
  Moving x = Moves M c (steps_time o x) x.after

  -- an order of another kind than 7 keeps the time
  other_moves : eqb o.kind 7 ≡ false → (x : Outcome) → x.after.time ≡ c.time → Moving x
  other_moves k x e = rw k (stays x.after e)

  refused_moves : (n : ℕ) → Refusal n → Moving (refused n c)
  refused_moves n h = rw (ne_eqb n 0 (λ z. omega arith), and_true_false (eqb o.kind 7) false refl) (stays c refl)

  pick_time : (p : ℕ) (x : Outcome) → Pick M c p x → x.after.time ≡ c.time
  pick_time p x (pick_refused n h) = refl
  pick_time p x (pick_done_lem there ready) = stepped_time M p c

  set_time : (set : ℕ) (x : Outcome) → PickSet M c set x → x.after.time ≡ c.time
  set_time set x (set_refused n h) = refl
  set_time set x (set_done_lem all) =
      by_members M set c all (λ n d. d.time ≡ c.time) refl (λ n d m there ready before. stepped_time M n d ∙ before) (λ n d m before. before) set_bits (omega arith)

  read_time : (s : ℕ) (x : Outcome) → Read M c s x → x.after.time ≡ c.time
  read_time s x (read_refused n h) = refl
  read_time s x (read_done there) = refl

  delta_time : (x : Outcome) → Delta M c x → x.after.time ≡ c.time
  delta_time x (delta_refused n h) = refl
  delta_time x (delta_done quiet running due few) = unfold delta_step in refl

  time_moves : eqb o.kind 7 ≡ true → (x : Outcome) → Time M c x → Moving x
  time_moves k x (time_refused n h) = refused_moves n h
  time_moves k x (time_done t quiet due e low) = rw k (leaves t (due_after M c r t e due) due (due_then M c t e))

  pub performed_moves : Moves M c (steps_time o (performed M o c)) (performed M o c).after
  unfolding performed
  performed_moves =
      by_test Moving (not (is_known o)) _ _ (λ e. refused_moves 11 (omega arith))
      (λ e. by_test Moving (eqb o.kind 1) _ _
      (λ k. other_moves (rw (eqb-true o.kind 1 k)) (picked M o.argument c) (pick_time o.argument _ (pick_is M c o.argument)))
      (λ e. by_test Moving (eqb o.kind 3) _ _
      (λ k. other_moves (rw (eqb-true o.kind 3 k)) (settled M o.count c) (unfold settled in settled_time M o.count 0 c))
      (λ e. by_test Moving (eqb o.kind 5) _ _
      (λ k. other_moves (rw (eqb-true o.kind 5 k)) (picked_set M o.count c) (set_time o.count _ (pick_set_is M c o.count)))
      (λ e. by_test Moving (eqb o.kind 6) _ _
      (λ k. other_moves (rw (eqb-true o.kind 6 k)) (delta_stepped M c) (delta_time _ (delta_is M c)))
      (λ e. by_test Moving (eqb o.kind 7) _ _
      (λ k. time_moves k (time_stepped M c) (time_is M c))
      (λ k. other_moves k (read_of M o.argument c) (read_time o.argument _ (read_is M c o.argument))))))))

-- a time step alters no current value
front_same : (m : ℕ) (h : List ℕ) → get_or (replicate m (get_or h 0 0) ++ h) 0 0 ≡ get_or h 0 0
front_same zero h = refl
front_same (suc m) h = refl

shifted_current : (n : ℕ) (h : List ℕ) → get_or (shifted n h) 0 0 ≡ get_or h 0 0
unfolding shifted
shifted_current n h = get_or-take 32 (replicate (min n 32) (get_or h 0 0) ++ h) 0 0 (omega arith) ∙ front_same (min n 32) h

step_current : (t : ℕ) (c : Configuration) (s : ℕ) → s < length c.signals → current_of (time_step t c).signals s ≡ current_of c.signals s
unfolding time_step
step_current t c s l =
    let e = map_at (shifted (t - c.time)) c.signals s [] [] l in
    ap (λ (h : List ℕ). get_or h 0 0) e ∙ shifted_current (t - c.time) (get_or c.signals s [])

-- the row of a configuration is that of the one which a time step from it makes, but for the time
pub row_behind : (M : Model) (c : Configuration) → Reachable M c → (t : ℕ) → (row_at M (time_step t c)).values ≡ (row_at M c).values
unfolding row_at
row_behind M c r t = list_same _ _ (length M.signals) (λ s l. step_current t c s (omega (arith, r.signals)))

module _ (M : Model) (fs : Facts M) where
  -- the settled configurations are at most half as many as the orders, rounded up, and one; and rounded down where something is due now
  record Few (os : List Order) (c : Configuration) : Type 0 where
    any : length (settled_in M os c) ≤ (length os + 1) / 2 + 1
    due : due_now M c ≡ true → length (settled_in M os c) ≤ length os / 2 + 1

  few_by : (o : Order) (os : List Order) (c d : Configuration) (b : Bool) → Moves M c b d → Few os d
      → ((length (b ⇒ (c ∷ settled_in M os d) ∣ settled_in M os d) ≤ (suc (length os) + 1) / 2 + 1)
      × (due_now M c ≡ true → length (b ⇒ (c ∷ settled_in M os d) ∣ settled_in M os d) ≤ suc (length os) / 2 + 1))
  few_by o os c d b (stays e same) f = (omega (arith, f.any), λ h. omega (arith, f.any))
  few_by o os c d b (leaves t l quiet due) f = (omega (arith, f.due due), λ h. let q : ◌≡◌ {A = ℕ} 0 1 = cc in absurd (omega arith))

  settled_few : (os : List Order) (c : Configuration) → Reachable M c → Few os c
  unfolding settled_in
  settled_few [] c r = record { any = omega arith; due = λ h. omega arith }
  settled_few (o ∷ os) c r =
      let f = few_by o os c (performed M o c).after _ (performed_moves M o c r) (settled_few os (performed M o c).after (performed_reachable M fs o c r)) in
      record { any = f.0; due = f.1 }

  pub run_few : (os : List Order) (c : Configuration) → Reachable M c → length (settled_in M os c) ≤ (length os + 1) / 2 + 1
  run_few os c r = (settled_few os c r).any

  -- their times rise, from t on
  abbrev Rising : ℕ → List Configuration → Type 0
  Rising t [] = Unit {0}
  Rising t (c ∷ cs) = (t ≤ c.time) × (c.time ≤ last_time) × Rising (c.time + 1) cs

  earlier_too : (s t : ℕ) (cs : List Configuration) → s ≤ t → Rising t cs → Rising s cs
  earlier_too s t [] h r = tt
  earlier_too s t (c ∷ cs) h r = (omega (arith, r.0), r.1, r.2)

  rising_by : (os : List Order) (c d : Configuration) (b : Bool) → Reachable M c → Moves M c b d → Rising d.time (settled_in M os d)
      → Rising c.time (b ⇒ (c ∷ settled_in M os d) ∣ settled_in M os d)
  rising_by os c d b r (stays e same) h = earlier_too c.time d.time (settled_in M os d) (omega arith) h
  rising_by os c d b r (leaves t l quiet due) h =
      (omega arith, r.time, earlier_too (c.time + 1) (time_step t c).time (settled_in M os (time_step t c)) (unfold time_step in omega arith) h)

  settled_rising : (os : List Order) (c : Configuration) → Reachable M c → Rising c.time (settled_in M os c)
  unfolding settled_in
  settled_rising [] c r = (omega arith, r.time, tt)
  settled_rising (o ∷ os) c r =
      rising_by os c (performed M o c).after _ r (performed_moves M o c r)
      (settled_rising os (performed M o c).after (performed_reachable M fs o c r))

  -- the first has the time that the run begins at
  first_by : (os : List Order) (c d : Configuration) (b : Bool) → Moves M c b d → (get_or (settled_in M os d) 0 empty).time ≡ d.time
      → (get_or (b ⇒ (c ∷ settled_in M os d) ∣ settled_in M os d) 0 empty).time ≡ c.time
  first_by os c d b (stays e same) h = h ∙ same
  first_by os c d b (leaves t l quiet due) h = refl

  pub first_settled : (os : List Order) (c : Configuration) → Reachable M c → (get_or (settled_in M os c) 0 empty).time ≡ c.time
  unfolding settled_in
  first_settled [] c r = refl
  first_settled (o ∷ os) c r =
      first_by os c (performed M o c).after _ (performed_moves M o c r)
      (first_settled os (performed M o c).after (performed_reachable M fs o c r))

  -- entry by entry
  abbrev rows : List Configuration → List Row
  rows cs = map (row_at M) cs

  rise_at : (t : ℕ) (cs : List Configuration) → Rising t cs → (k : ℕ) → suc k < length (rows cs) → (row_in (rows cs) k).time < (row_in (rows cs) (suc k)).time
  unfolding row_at
  rise_at t [] r k h = absurd (omega arith)
  rise_at t (c ∷ []) r k h = absurd (omega arith)
  rise_at t (c ∷ d ∷ cs) r zero h = omega (arith, r.2.0)
  rise_at t (c ∷ d ∷ cs) r (suc k) h = rise_at (c.time + 1) (d ∷ cs) r.2 k (omega arith)

  short_at : (t : ℕ) (cs : List Configuration) → Rising t cs → (k : ℕ) → k < length (rows cs) → (row_in (rows cs) k).time < 18446744073709551616
  unfolding row_at
  short_at t [] r k h = absurd (omega arith)
  short_at t (c ∷ cs) r zero h = omega (arith, r.1)
  short_at t (c ∷ cs) r (suc k) h = short_at (c.time + 1) cs r.2 k (omega arith)

  pub times_rise : (os : List Order) (c : Configuration) → Reachable M c → TimesRise (rows (settled_in M os c))
  times_rise os c r =
      let cs = settled_in M os c in
      let rs = settled_rising os c r in
      record { rise = rise_at c.time cs rs; short = short_at c.time cs rs }
