-- What each order comes to, a case for each way in which the tests of its definition fall.
-- Assumes nothing.
use mathlib.Core.Path.{◌≡◌, refl, sym}
use mathlib.Core.Bool.{true, false, true≢false, not}
use mathlib.Core.Option.{Option, none, some}
use Prim.Native.Nat.{ℕ, ◌≤◌, ◌<◌}
use native.Mathlib.Omega.{arith}
use borrow.Author.Tests.{ltb-false, leb-false, lt-leb, not-false}
use lib.Dec.{eqb, ltb, leb}
use lib.ListN.{length}
use Rattle.base.specs.Below.{any_below}
use Rattle.base.proofs.Below.{any_none}
use Rattle.base.proofs.Cases.{by_test, either_way}
use Rattle.blocks.specs.Records.{Model}
use Rattle.rules.specs.Configuration.{Configuration, current_of, last_time}
use Rattle.rules.specs.Statements.{stepped}
use Rattle.rules.specs.Steps.{delta_step, time_step}
use Rattle.rules.specs.Orders.{Outcome, refused, is_ready, is_stopped, pick_done, picked, due_times, earliest, due_now, advance_done, advancing, time_order, delta_stepped, time_stepped, set_bits, some_member, stepped_below, set_done, picked_set, read_of}
use Rattle.rules.proofs.Sets.{Chosen, chosen}

-- the number of an order's refusal: 11 to 19, 22 and 23 (20 and 21 are no order's)
pub record Refusal (n : ℕ) : Type 0 where
  pub least : 11 ≤ n
  pub most : n ≤ 23

module _ (M : Model) (c : Configuration) where
  -- a pick of process p
  pub data Pick (p : ℕ) : Outcome → Type 0 where
    pick_refused : (n : ℕ) → Refusal n → Pick p (refused n c)
    pick_done_lem : p < length M.processes → is_ready p c ≡ true → Pick p (pick_done p (stepped M p c))

  pub pick_is : (p : ℕ) → Pick p (picked M p c)
  unfolding picked
  pick_is p =
      by_test (Pick p) (leb (length M.processes) p) _ _
      (λ e. pick_refused 12 (omega arith))
      (λ there. by_test (Pick p) (not (is_ready p c)) _ _
      (λ e. pick_refused 13 (omega arith))
      (λ ready. pick_done_lem (leb-false _ _ there) (not-false _ ready)))

  pub pick_of_ready : (p : ℕ) → p < length M.processes → is_ready p c ≡ true → picked M p c ≡ pick_done p (stepped M p c)
  unfolding picked
  pick_of_ready p there ready = rw (lt-leb _ _ there, ready)

  abbrev pub NoneReady : Type 0
  NoneReady = (p : ℕ) → p < length M.processes → is_ready p c ≡ false

  abbrev pub NoneStopped : Type 0
  NoneStopped = (p : ℕ) → p < length M.processes → is_stopped p c ≡ false

  -- 14 and 15, or what comes after them
  advancing_is : (P : Outcome → Type 0) → ((n : ℕ) → Refusal n → P (refused n c)) → (r : Outcome) → (NoneReady → NoneStopped → P r)
      → P (advancing M c r)
  advancing_is P refuses r f =
      by_test P (any_below (λ p. is_ready p c) (length M.processes)) _ _
      (λ e. refuses 14 (omega arith))
      (λ quiet. by_test P (any_below (λ p. is_stopped p c) (length M.processes)) _ _
      (λ e. refuses 15 (omega arith))
      (λ running. f (any_none (λ p. is_ready p c) (length M.processes) quiet) (any_none (λ p. is_stopped p c) (length M.processes) running)))

  -- a delta step
  pub data Delta : Outcome → Type 0 where
    delta_refused : (n : ℕ) → Refusal n → Delta (refused n c)
    delta_done : NoneReady → NoneStopped → due_now M c ≡ true → c.deltas < 1000 → Delta (advance_done 1 (delta_step M c))

  pub delta_is : Delta (delta_stepped M c)
  unfolding delta_stepped
  delta_is =
      advancing_is Delta delta_refused _
      (λ quiet running. by_test Delta (not (due_now M c)) _ _
      (λ e. delta_refused 22 (omega arith))
      (λ due. by_test Delta (leb 1000 c.deltas) _ _
      (λ e. delta_refused 16 (omega arith))
      (λ few. delta_done quiet running (not-false _ due) (leb-false _ _ few))))

  -- a time step
  pub data Time : Outcome → Type 0 where
    time_refused : (n : ℕ) → Refusal n → Time (refused n c)
    time_done : (t : ℕ) → NoneReady → due_now M c ≡ false → earliest (due_times M c) ≡ some t → t ≤ last_time
        → Time (advance_done 2 (time_step t c))

  time_order_lem : NoneReady → due_now M c ≡ false → (o : Option ℕ) → earliest (due_times M c) ≡ o → Time (time_order o c)
  time_order_lem quiet due none e = time_refused 17 (omega arith)
  time_order_lem quiet due (some t) e =
      by_test Time (ltb last_time t) _ _
      (λ late. time_refused 18 (omega arith))
      (λ low. time_done t quiet due e (ltb-false _ _ low))

  pub time_is : Time (time_stepped M c)
  unfolding time_stepped
  time_is =
      advancing_is Time time_refused _
      (λ quiet running. by_test Time (due_now M c) _ _ (λ e. time_refused 23 (omega arith)) (λ due. time_order_lem quiet due (earliest (due_times M c)) refl))

  -- where a time step is done, a delta step is refused
  advancing_one : (r s : Outcome) → (eqb r.refusal 0 ≡ true → eqb s.refusal 0 ≡ false)
      → eqb (advancing M c r).refusal 0 ≡ true → eqb (advancing M c s).refusal 0 ≡ false
  advancing_one r s f =
      either_way (any_below (λ p. is_ready p c) (length M.processes))
      (λ e. rw e (λ h. refl))
      (λ q. either_way (any_below (λ p. is_stopped p c) (length M.processes)) (λ e. rw (q, e) (λ h. refl)) (λ e. rw (q, e) f))

  pub one_step : eqb (time_stepped M c).refusal 0 ≡ true → eqb (delta_stepped M c).refusal 0 ≡ false
  unfolding delta_stepped time_stepped
  one_step =
      advancing_one _ _
      (either_way (due_now M c) (λ due. rw due (λ h. absurd (true≢false (sym h)))) (λ due. rw due (λ h. refl)))

  -- a pick of a set
  pub data PickSet (set : ℕ) : Outcome → Type 0 where
    set_refused : (n : ℕ) → Refusal n → PickSet set (refused n c)
    set_done_lem : Chosen M set c → PickSet set (set_done set (stepped_below M set set_bits c))

  pub pick_set_is : (set : ℕ) → PickSet set (picked_set M set c)
  unfolding picked_set
  pick_set_is set =
      by_test (PickSet set) (some_member (leb (length M.processes)) set) _ _
      (λ e. set_refused 12 (omega arith))
      (λ there. by_test (PickSet set) (some_member (λ p. not (is_ready p c)) set) _ _
      (λ e. set_refused 13 (omega arith))
      (λ ready. set_done_lem (chosen M set c there ready)))

  -- a read of signal s
  pub data Read (s : ℕ) : Outcome → Type 0 where
    read_refused : (n : ℕ) → Refusal n → Read s (refused n c)
    read_done : s < length M.signals
        → Read s (record { refusal = 0; byte = 0; picks = 0; value = current_of c.signals s; after = c })

  pub read_is : (s : ℕ) → Read s (read_of M s c)
  unfolding read_of
  read_is s =
      by_test (Read s) (leb (length M.signals) s) _ _
      (λ e. read_refused 19 (omega arith))
      (λ there. read_done (leb-false _ _ there))
