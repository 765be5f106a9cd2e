-- The laws of a schedule: what it leaves pending before the new transaction, and that one added. Assumes nothing.
use mathlib.Core.Path.{◌≡◌, refl, sym, ap, ◌∙◌}
use mathlib.Core.Bool.{true, false}
use mathlib.Core.List.{List, [], ◌∷◌, ◌++◌, append-nil}
use mathlib.Core.Logic.{⊎_elim}
use Prim.Native.Nat.{ℕ, zero, suc, ◌+◌, ◌-◌, ◌≤◌, ◌<◌}
use native.Mathlib.Nat.{eq-or-lt_of_le}
use native.Mathlib.Omega.{arith}
use lib.Dec.{ltb}
use lib.ListN.{length, get_or, drop, set, length-append, length-drop}
use lib.Seq.{get_or-set_same, get_or-set_other}
use borrow.Author.Tests.{lt-ltb, le-ltb}
use Rattle.std.specs.Prelude.{Some, None}
use Rattle.base.specs.Cases.{◌∣◌, ◌⇒◌}
use Rattle.base.specs.Below.{list_below}
use Rattle.base.proofs.Below.{list_more, list_same}
use Rattle.rules.specs.declared.driven.Driven.{Driven}
use Rattle.rules.specs.declared.mechanism.Mechanism.{Mechanism}
use Rattle.rules.specs.declared.mechanism.Mechanism.TheVariants.{Transport, Inertial}
use Rattle.rules.specs.Configuration.{Transaction}
use Rattle.rules.specs.Statements.{kept, before, only, added, equal_value, left_by, scheduled, overflows, driver_after}
use Rattle.rules.proofs.Marks.{run_left, run_listed}
use Rattle.waveforms.specs.Pending.{driven_of, pending_of}
use Rattle.waveforms.specs.Waveform.{Waveform, Kept, Run, RunStart, BeforeTime, Without, LeftBy, ScheduledTo}
use Rattle.waveforms.specs.declared.driver.Driver.{Driver}
use Rattle.waveforms.proofs.Drivers.{transaction_at, pending_length}

module _ (at : ℕ) where
  before_append : (w u : List Transaction) → before at (w ++ u) ≡ before at w ++ before at u
  unfolding before kept
  before_append [] u = refl
  before_append (x ∷ w) u =
      elim (ltb x.time at) as (λ b. (b ⇒ (x ∷ before at (w ++ u)) ∣ before at (w ++ u)) ≡ (b ⇒ (x ∷ before at w) ∣ before at w) ++ before at u) [
        | true ↦ rw (before_append w u)
        | false ↦ before_append w u
      ]

  before_nil : before at [] ≡ []
  unfolding before kept
  before_nil = refl

  before_one : (x : Transaction) → x.time < at → before at (x ∷ []) ≡ x ∷ []
  unfolding before kept
  before_one x h = rw (lt-ltb x.time at h)

  before_none : (x : Transaction) → at ≤ x.time → before at (x ∷ []) ≡ []
  unfolding before kept
  before_none x h = rw (le-ltb x.time at h)

  -- what lies before the time at is the first n, those at n and after it lying at it or later
  before_first : (f : ℕ → Transaction) (c n : ℕ) → n ≤ c → ((k : ℕ) → k < n → (f k).time < at) → ((k : ℕ) → n ≤ k → k < c → at ≤ (f k).time) → before at (list_below f c) ≡ list_below f n
  unfolding list_below
  before_first f zero n h b s = let e : n ≡ 0 = omega arith in rw (e, before_nil)
  before_first f (suc c) n h b s =
      rw before_append
      (⊎_elim
      (λ (e : n ≡ suc c). rw (e, before_first f c c (omega arith) (λ k l. b k (omega arith)) (λ k l m. absurd (omega arith)), before_one (f c) (b c (omega arith))))
      (λ (l : n < suc c). rw (before_first f c n (omega arith) b (λ k l m. s k l (omega arith)), before_none (f c) (s c (omega arith) (omega arith)), append-nil))
      (eq-or-lt_of_le h))

-- the first n times lie before the new one's
module _ (d : Driver) (w : Waveform d) (delay n : ℕ) (k : Kept d.times d.count delay n) where
  -- units from t compare as times do
  kept_are : (t : ℕ) → before (t + delay) (pending_of t d) ≡ list_below (transaction_at t d) n
  unfolding pending_of
  kept_are t =
      before_first (t + delay) (transaction_at t d) d.count n k.within (λ j l. omega (arith, k.below j l))
      (λ j l h. ⊎_elim (λ (e : n ≡ j). omega (arith, rw e at (k.stop (omega arith)))) (λ (m : n < j). omega (arith, k.stop (omega arith), w.rising n j m h)) (eq-or-lt_of_le l))

  pub before_is : BeforeTime delay d (record { times = d.times; values = d.values; count = n })
  unfolding pending_of
  before_is = record { pending = λ t. sym (kept_are t); few = omega (arith, k.within, w.few) }

drop_next : {A : Type 0} (n : ℕ) (l : List A) → drop 1 (drop n l) ≡ drop (suc n) l
drop_next zero l = refl
drop_next (suc n) [] = refl
drop_next (suc n) (x ∷ l) = drop_next n l

-- r has what d has pending, but for the first i
module _ (d r : Driver) (i : ℕ) (h : (t : ℕ) → pending_of t r ≡ drop i (pending_of t d)) where
  pub count_left : r.count ≡ d.count - i
  count_left = sym (pending_length 0 r) ∙ ap length (h 0) ∙ length-drop i (pending_of 0 d) ∙ rw (pending_length 0 d)

  pub next_left : (q : Driver) → ((t : ℕ) → pending_of t q ≡ drop 1 (pending_of t r)) → (t : ℕ) → pending_of t q ≡ drop (i + 1) (pending_of t d)
  next_left q e t = let s : i + 1 ≡ suc i = omega arith in rw s (e t ∙ ap (drop 1) (h t) ∙ drop_next i (pending_of t d))

  pub without_is : (n : ℕ) → i ≡ n → d.count ≤ 8 → Without n d r
  without_is n e l = record { pending = rw (← e) h; few = omega (arith, count_left) }

-- a run of words with the value of v, found from the last one back
pub run_none : (vs : List ℕ) (c : ℕ) (v : Driven) → Run vs c v c
run_none vs c v = record { within = omega arith; equal = λ k l m. absurd (omega arith) }

module _ (vs : List ℕ) (c : ℕ) (v : Driven) (n : ℕ) (h : Run vs c v n) where
  pub run_more : 0 < n → equal_value (driven_of (get_or vs (n - 1) 0)) v ≡ true → Run vs c v (n - 1)
  run_more l e =
      record {
        within = omega (arith, h.within);
        equal = λ k m p. ⊎_elim (λ (q : n - 1 ≡ k). rw q at e) (λ (q : n - 1 < k). h.equal k (omega arith) p) (eq-or-lt_of_le m);
      }

  pub run_stops : 0 < n → equal_value (driven_of (get_or vs (n - 1) 0)) v ≡ false → RunStart vs c v n
  run_stops l e = record { run = h; other = λ k q. let p : n - 1 ≡ k = omega arith in rw p at e }

  pub run_whole : n ≤ 0 → RunStart vs c v n
  run_whole l = record { run = h; other = λ k q. absurd (omega arith) }

-- a transport delay leaves all, an inertial one of v the run of its value that is last
pub left_transport : (d : Driver) (v : Driven) → d.count ≤ 8 → LeftBy Transport v d d
unfolding left_by
left_transport d v l = record { pending = λ t at. refl; few = l }

pub left_inertial : (d r : Driver) (v : Driven) (n : ℕ) → RunStart d.values d.count v n → Without n d r → LeftBy Inertial v d r
unfolding pending_of left_by
left_inertial d r v n h w =
    record {
      pending = λ t at.
          let x : Transaction = record { time = at; value = v } in
          rw (w.pending t) (sym (run_left x n (pending_of t d) (run_listed x (transaction_at t d) d.count n h.run.within h.run.equal h.other)));
      few = w.few;
    }

-- a schedule of v: e has what is pending before its time, k what the delay leaves of it
module _ (d e k : Driver) (delay : ℕ) (v : Driven) (m : Mechanism) (b : BeforeTime delay d e) (h : LeftBy m v e k) where
  left_are : (t : ℕ) → pending_of t k ++ only (t + delay) v ≡ scheduled m (pending_of t d) (t + delay) v
  unfolding scheduled added
  left_are t = h.pending t (t + delay) ∙ rw (b.pending t)

  scheduled_long : (t : ℕ) → length (scheduled m (pending_of t d) (t + delay) v) ≡ k.count + 1
  scheduled_long t = ap length (sym (left_are t)) ∙ length-append (pending_of t k) _ ∙ rw (pending_length t k)

  room : k.count < 8 → (t : ℕ) → overflows (scheduled m (pending_of t d) (t + delay) v) ≡ false
  unfolding overflows
  room l t = le-ltb 8 (length (scheduled m (pending_of t d) (t + delay) v)) (omega (arith, scheduled_long t))

  over : 8 ≤ k.count → (t : ℕ) → overflows (scheduled m (pending_of t d) (t + delay) v) ≡ true
  unfolding overflows
  over l t = lt-ltb 8 (length (scheduled m (pending_of t d) (t + delay) v)) (omega (arith, scheduled_long t))

  abbrev with : ℕ → Driver
  with x = record { times = set k.times k.count delay; values = set k.values k.count x; count = k.count + 1 }

  -- x is the word that holds v
  module _ (lt : length k.times ≡ 8) (lv : length k.values ≡ 8) (l : k.count < 8) (x : ℕ) (held : driven_of x ≡ v) where
    with_listed : (t : ℕ) → pending_of t (with x) ≡ pending_of t k ++ only (t + delay) v
    unfolding pending_of
    with_listed t =
        let n = k.count in
        let lt' : n < length k.times = omega arith in
        let lv' : n < length k.values = omega arith in
        rw (
          list_more,
          list_same (transaction_at t (with x)) (transaction_at t k) n
              (λ j b. let o : j ≡ n → ⊥ = λ e. omega arith in rw (get_or-set_other k.times n j delay 0 o, get_or-set_other k.values n j x 0 o)),
          get_or-set_same k.times n delay 0 lt',
          get_or-set_same k.values n x 0 lv',
          held,
        )

    pub scheduled_in : ScheduledTo d delay v m (Some (with x))
    unfolding driver_after
    scheduled_in = record { driver = λ t y. rw (room l t, with_listed t ∙ left_are t); full = λ t. sym (room l t); few = omega arith }

  pub scheduled_ninth : d.count ≤ 8 → 8 ≤ k.count → ScheduledTo d delay v m None
  unfolding driver_after
  scheduled_ninth few l = record { driver = λ t y. rw (over l t); full = λ t. sym (over l t); few = few }
