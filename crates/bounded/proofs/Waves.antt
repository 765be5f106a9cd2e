-- Waveforms: which of their transactions can be due now, after a schedule and after a delta step. Assumes nothing.
use mathlib.Core.Path.{◌≡◌, refl, sym, ◌∙◌}
use mathlib.Core.Bool.{Bool, true, false, true≢false}
use mathlib.Core.List.{List, [], ◌∷◌, ◌++◌}
use mathlib.Core.Logic.{◌⊎◌, inl, inr, ⊎_elim}
use Prim.Native.Nat.{ℕ, zero, suc, ◌+◌, ◌≤◌, ◌<◌}
use native.Mathlib.Decide.{ℕ_discrete}
use native.Mathlib.Omega.{arith}
use lib.Dec.{eqb}
use lib.ListN.{length}
use lib.Seq.{get_or-set_same, get_or-set_other}
use borrow.Author.Tests.{eqb-true, ne_eqb}
use Rattle.base.proofs.Cases.{by_test}
use Rattle.blocks.specs.Records.{Model}
use Rattle.rules.specs.declared.driven.Driven.{Driven}
use Rattle.rules.specs.declared.mechanism.Mechanism.{Mechanism}
use Rattle.rules.specs.declared.mechanism.Mechanism.TheVariants.{Transport, Inertial}
use Rattle.rules.specs.declared.effect.Effect.{Effect}
use Rattle.rules.specs.declared.effect.Effect.TheVariants.{Skip, Store, Schedule, Jump, Wait, WaitFor, Stop}
use Rattle.rules.specs.Configuration.{last_time, Transaction, DriverState, driver_in}
use Rattle.rules.specs.Statements.{kept, before, added, marked, left_by, scheduled, overflows, driver_after, drivers_after}
use Rattle.rules.specs.Steps.{due_in, transaction_due, taken_in, taken}
use Rattle.rules.specs.Invariant.{last_due, Rising, EffectFits}
use Rattle.rules.proofs.Waves.{rising_from, scheduled_rising}

-- a waveform that starts later has nothing due now
late : (t u : ℕ) (w : List Transaction) → t < u → Rising u w → due_in t w ≡ false
late t u [] h r = refl
late t u (x ∷ w) h r = ne_eqb x.time t (λ e. omega (arith, r.0))

-- what is kept of a rising waveform has its first due now only if that was the first
kept_due : (test : Transaction → List Transaction → Bool) (t : ℕ) (w : List Transaction) → Rising t w → due_in t (kept test w) ≡ true → due_in t w ≡ true
unfolding kept
kept_due test t [] r = λ d. d
kept_due test t (x ∷ w) r =
    by_test (λ (l : List Transaction). due_in t l ≡ true → eqb x.time t ≡ true) (test x w) _ _
    (λ e d. d)
    (λ e d.
    let later : t < x.time + 1 = omega (arith, r.0) in
    let now = kept_due test t w (rising_from t (x.time + 1) w (omega arith) r.2) d in
    absurd (true≢false (sym now ∙ late t (x.time + 1) w later r.2)))

-- a later transaction behind the others is not due now
append_due : (t : ℕ) (w : List Transaction) (x : Transaction) → t < x.time → due_in t (w ++ (x ∷ [])) ≡ true → due_in t w ≡ true
append_due t [] x h d = absurd (omega (arith, eqb-true x.time t d))
append_due t (y ∷ w) x h d = d

-- so a schedule of a later one brings nothing due now
module _ (w : List Transaction) (t at : ℕ) (v : Driven) (later : t < at) (most : at ≤ last_due) (r : Rising t w) where
  added_due : due_in t (added w at v) ≡ true → due_in t w ≡ true
  unfolding added before
  added_due d = kept_due _ t w r (append_due t (before at w) _ later d)

  added_rising : Rising t (added w at v)
  unfolding scheduled left_by
  added_rising = scheduled_rising Transport w at v t (omega arith) most r

  still_due : (m : Mechanism) → due_in t (scheduled m w at v) ≡ true → due_in t w ≡ true
  unfolding scheduled left_by
  still_due Transport d = added_due d
  still_due Inertial d = added_due (kept_due marked t (added w at v) added_rising d)

-- a delta step leaves none due now
pub none_due : (t : ℕ) (d : DriverState) → Rising t d.pending → transaction_due t (taken t d) ≡ false
unfolding transaction_due taken
none_due t d = left d.pending
  where
    left : (w : List Transaction) → Rising t w → due_in t (taken_in t d.current w).pending ≡ false
    left [] r = refl
    left (x ∷ w) r =
        by_test (λ (d : DriverState). due_in t d.pending ≡ false) (eqb x.time t) _ _
        (λ e. late t (x.time + 1) w (omega (arith, eqb-true x.time t e)) r.2)
        (λ e. e)

-- a driver has one due now after a schedule only where it had, or the delay is 0
due_scheduled : (m : Mechanism) (t n : ℕ) (v : Driven) (d : DriverState) → t + n ≤ last_due → Rising t d.pending
    → transaction_due t (driver_after m (t + n) v d) ≡ true → (transaction_due t d ≡ true) ⊎ (n ≡ 0)
unfolding transaction_due driver_after
due_scheduled m t zero v d h r = λ b. inr refl
due_scheduled m t (suc n) v d h r =
    by_test (λ (x : DriverState). due_in t x.pending ≡ true → (due_in t d.pending ≡ true) ⊎ (suc n ≡ 0))
    (overflows (scheduled m d.pending (t + suc n) v)) _ _
    (λ e b. inl b)
    (λ e b. inl (still_due d.pending t (t + suc n) v (omega arith) h r m b))

-- an effect that puts a transaction without delay on driver k
abbrev pub Puts : ℕ → Effect → Type 0
Puts k e = (v : Driven) × (m : Mechanism) × (e ≡ Schedule k 0 v m)

-- what an effect brings due now
module _ (M : Model) (p kind t : ℕ) (early : t ≤ last_time) (ds : List DriverState) (k : ℕ) (there : k < length ds) (r : Rising t (driver_in ds k).pending) where
  pub due_driver : (e : Effect) → EffectFits M p kind e → transaction_due t (driver_in (drivers_after e t ds) k) ≡ true
      → (transaction_due t (driver_in ds k) ≡ true) ⊎ Puts k e
  due_driver Skip f d = inl d
  due_driver (Store a v) f d = inl d
  due_driver (Schedule j n v m) f d =
      elim (ℕ_discrete k j) [
        | yes e ↦
            ⊎_elim
            (λ (b : transaction_due t (driver_in ds k) ≡ true). inl b)
            (λ (z : n ≡ 0). inr (v, m, rw (z, e)))
            (due_scheduled m t n v (driver_in ds k) (omega (arith, f.delay)) r
            (rw (← e, get_or-set_same ds k (driver_after m (t + n) v (driver_in ds k)) _ there) at d))
        | no o ↦ inl (rw (get_or-set_other ds j k (driver_after m (t + n) v (driver_in ds j)) _ o) at d)
      ]
  due_driver (Jump a) f d = inl d
  due_driver Wait f d = inl d
  due_driver (WaitFor n) f d = inl d
  due_driver (Stop s) f d = inl d
