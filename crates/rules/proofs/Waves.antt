-- The laws of waveforms: what a schedule keeps and adds, and what a delta step takes. Assumes nothing.
use mathlib.Core.Path.{◌≡◌}
use mathlib.Core.Bool.{Bool, false}
use mathlib.Core.List.{List, [], ◌∷◌, ◌++◌}
use Prim.Native.Nat.{ℕ, ◌+◌, ◌≤◌, ◌<◌}
use native.Mathlib.Omega.{arith}
use lib.Dec.{eqb, ltb}
use lib.ListN.{length}
use borrow.Author.Tests.{ltb-true, ltb-false, eqb-true, eqb-false}
use Rattle.base.specs.Below.{All}
use Rattle.base.proofs.Cases.{by_test}
use Rattle.blocks.specs.declared.records.SignalRecord.{SignalRecord}
use Rattle.rules.specs.declared.driven.Driven.{Driven}
use Rattle.rules.specs.declared.mechanism.Mechanism.{Mechanism}
use Rattle.rules.specs.declared.mechanism.Mechanism.TheVariants.{Transport, Inertial}
use Rattle.rules.specs.Configuration.{Transaction, DriverState}
use Rattle.rules.specs.Statements.{kept, before, added, marked, left_by, scheduled, overflows, driver_after}
use Rattle.rules.specs.Steps.{taken, taken_in}
use Rattle.rules.specs.Orders.{times_in}
use Rattle.rules.specs.Invariant.{last_due, Rising, Carries, Values, DriverValid}

-- all transactions of the waveform are before the time at
abbrev pub Before : ℕ → List Transaction → Type 0
Before at = All (λ x. x.time < at)

-- a waveform that starts at t or later starts at any earlier time or later
pub rising_from : (s t : ℕ) (w : List Transaction) → s ≤ t → Rising t w → Rising s w
rising_from s t [] h r = tt
rising_from s t (x ∷ w) h r = (omega arith, r.1, r.2)

-- what is left of a waveform when some are removed, whatever keeps the others
module _ (test : Transaction → List Transaction → Bool) where
  kept_rising : (t : ℕ) (w : List Transaction) → Rising t w → Rising t (kept test w)
  unfolding kept
  kept_rising t [] r = tt
  kept_rising t (x ∷ w) r =
      by_test (Rising t) (test x w) _ _
      (λ e. (r.0, r.1, kept_rising (x.time + 1) w r.2))
      (λ e. kept_rising t w (rising_from t (x.time + 1) w (omega (arith, r.0)) r.2))

  kept_values : (s : SignalRecord) (w : List Transaction) → Values s w → Values s (kept test w)
  unfolding kept
  kept_values s [] v = tt
  kept_values s (x ∷ w) v = by_test (Values s) (test x w) _ _ (λ e. (v.0, kept_values s w v.1)) (λ e. kept_values s w v.1)

before_before : (at : ℕ) (w : List Transaction) → Before at (before at w)
unfolding before kept
before_before at [] = tt
before_before at (x ∷ w) = by_test (Before at) (ltb x.time at) _ _ (λ e. (ltb-true x.time at e, before_before at w)) (λ e. before_before at w)

-- one later than those that are there
append_rising : (t : ℕ) (w : List Transaction) (x : Transaction) → t ≤ x.time → x.time ≤ last_due → Before x.time w → Rising t w → Rising t (w ++ (x ∷ []))
append_rising t [] x h l b r = (h, l, tt)
append_rising t (y ∷ w) x h l b r = (r.0, r.1, append_rising (y.time + 1) w x (omega (arith, b.0)) l b.1 r.2)

append_values : (s : SignalRecord) (w : List Transaction) (x : Transaction) → Values s w → Carries s x.value → Values s (w ++ (x ∷ []))
append_values s [] x v h = (h, tt)
append_values s (y ∷ w) x v h = (v.0, append_values s w x v.1 h)

-- a delay only removes
left_rising : (m : Mechanism) (t : ℕ) (w : List Transaction) → Rising t w → Rising t (left_by m w)
unfolding left_by
left_rising Transport t w r = r
left_rising Inertial t w r = kept_rising marked t w r

left_values : (m : Mechanism) (s : SignalRecord) (w : List Transaction) → Values s w → Values s (left_by m w)
unfolding left_by
left_values Transport s w v = v
left_values Inertial s w v = kept_values marked s w v

-- a schedule of any kind: those before, then one later, a value or null, and what the delay leaves of these
module _ (m : Mechanism) (w : List Transaction) (at : ℕ) (v : Driven) where
  pub scheduled_rising : (t : ℕ) → t ≤ at → at ≤ last_due → Rising t w → Rising t (scheduled m w at v)
  unfolding scheduled added before
  scheduled_rising t h l r = left_rising m t _ (append_rising t (before at w) _ h l (before_before at w) (kept_rising _ t w r))

  pub scheduled_values : (s : SignalRecord) → Values s w → Carries s v → Values s (scheduled m w at v)
  unfolding scheduled added before
  scheduled_values s h k = left_values m s _ (append_values s (before at w) _ (kept_values _ s w h) k)

pub not_over : (w : List Transaction) → overflows w ≡ false → length w ≤ 8
unfolding overflows
not_over w h = ltb-false 8 (length w) h

rising_later : (t s : ℕ) (w : List Transaction) → All (λ u. s ≤ u) (times_in w) → Rising t w → Rising s w
rising_later t s [] h r = tt
rising_later t s (x ∷ w) h r = (h.0, r.1, r.2)

-- a driver whose pending transactions are all later than t
abbrev Later : SignalRecord → ℕ → DriverState → Type 0
Later s t d = DriverValid s t d × Rising (t + 1) d.pending

taken_in_lem : (s : SignalRecord) (t : ℕ) (current : Driven) (w : List Transaction) → Carries s current → length w ≤ 8 → Rising t w → Values s w → Later s t (taken_in t current w)
taken_in_lem s t current [] c l r v = (record { current = c; few = l; rising = r; values = v }, tt)
taken_in_lem s t current (x ∷ w) c l r v =
    by_test (Later s t) (eqb x.time t) _ _
    (λ e.
    let q = eqb-true x.time t e in
    let g : Rising (t + 1) w = rising_from (t + 1) (x.time + 1) w (omega arith) r.2 in
    (record { current = v.0; few = omega arith; rising = rising_from t (t + 1) w (omega arith) g; values = v.1 }, g))
    (λ e. (record { current = c; few = l; rising = r; values = v }, (omega (arith, r.0, eqb-false x.time t e), r.1, r.2)))

module _ (s : SignalRecord) (t : ℕ) (d : DriverState) (f : DriverValid s t d) where
  pub driver_scheduled : (m : Mechanism) (at : ℕ) (v : Driven) → t ≤ at → at ≤ last_due → Carries s v → DriverValid s t (driver_after m at v d)
  unfolding driver_after
  driver_scheduled m at v h l k =
      by_test (DriverValid s t) (overflows (scheduled m d.pending at v)) _ _ (λ e. f)
      (λ e.
      record {
        current = f.current;
        few = not_over (scheduled m d.pending at v) e;
        rising = scheduled_rising m d.pending at v t h l f.rising;
        values = scheduled_values m d.pending at v s f.values k;
      })

  -- a time step that does not pass the first
  pub driver_later : (u : ℕ) → All (λ x. u ≤ x) (times_in d.pending) → DriverValid s u d
  driver_later u h = record { current = f.current; few = f.few; rising = rising_later t u d.pending h f.rising; values = f.values }

  pub driver_taken : DriverValid s t (taken t d)
  unfolding taken
  driver_taken = (taken_in_lem s t d.current d.pending f.current f.few f.rising f.values).0
