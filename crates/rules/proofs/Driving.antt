-- The driving values of a signal: what holds of each, that an integer signal has one driver at most, and that their resolution is of
-- the signal's type. Assumes nothing.
use mathlib.Core.Path.{◌≡◌, refl, sym, ◌∙◌}
use mathlib.Core.Bool.{true, false}
use mathlib.Core.List.{List, [], ◌∷◌, append-nil}
use Prim.Native.Nat.{ℕ, zero, suc, ◌≤◌, ◌<◌}
use native.Mathlib.Omega.{arith}
use lib.Dec.{eqb}
use lib.ListN.{length}
use borrow.Author.Tests.{eqb-true, leb-true, le-leb}
use Rattle.base.specs.Below.{join_below, All}
use Rattle.base.proofs.Cases.{by_test, either_way}
use Rattle.base.proofs.Below.{◌and◌, among}
use Rattle.values.proofs.Resolution.{resolution_laws}
use Rattle.blocks.specs.Records.{Model, signal_at, driver_at}
use Rattle.blocks.specs.declared.records.SignalRecord.{SignalRecord}
use Rattle.fields.specs.Fields.{value_ok}
use Rattle.trees.specs.Trees.{integer, logic}
use Rattle.model.specs.Facts.{Facts}
use Rattle.rules.specs.declared.driven.Driven.{Driven}
use Rattle.rules.specs.declared.driven.Driven.TheVariants.{To, Null}
use Rattle.rules.specs.Configuration.{DriverState, driver_in, values_of, driving_by, driving_of, resolved_or}
use Rattle.rules.specs.Invariant.{ValueOf, Carries}
use Rattle.base.proofs.All.{all_join, all_at}

module _ (M : Model) (ds : List DriverState) (s : ℕ) where
  -- what holds of the value of each driver of s that is on holds of each driving value
  pub driving_all : (P : ℕ → Type 0) → ((k : ℕ) → k < length M.drivers → (driver_at M k).signal ≡ s → All P (values_of (driver_in ds k).current)) → All P (driving_of M ds s)
  unfolding driving_of
  driving_all P h = all_join P (driving_by M ds s) (length M.drivers) each
    where
      each : (k : ℕ) → k < length M.drivers → All P (driving_by M ds s k)
      each k l = by_test (All P) (eqb (driver_at M k).signal s) _ _ (λ e. h k l (eqb-true (driver_at M k).signal s e)) (λ e. tt)

  -- the driving values of a signal that has one driver at most
  pub data Single (n : ℕ) : Type 0 where
    no_driver_lem : join_below (driving_by M ds s) n ≡ [] → Single n
    its_driver : (k : ℕ) → k < n → (driver_at M k).signal ≡ s → join_below (driving_by M ds s) n ≡ values_of (driver_in ds k).current → Single n

  module _ (single : (i j : ℕ) → i < length M.drivers → j < length M.drivers → (driver_at M i).signal ≡ s → (driver_at M j).signal ≡ s → i ≡ j) where
    one_more : (n : ℕ) → n < length M.drivers → Single n → Single (suc n)
    unfolding join_below
    one_more n h d =
        either_way (eqb (driver_at M n).signal s) (λ e. newest e d) (λ e. as_before e d)
      where
        newest : eqb (driver_at M n).signal s ≡ true → Single n → Single (suc n)
        newest e (no_driver_lem q) = its_driver n (omega arith) (eqb-true _ s e) (rw (q, e))
        newest e (its_driver k l t q) =
            let g = single k n (omega arith) h t (eqb-true (driver_at M n).signal s e) in absurd (omega arith)

        as_before : eqb (driver_at M n).signal s ≡ false → Single n → Single (suc n)
        as_before e (no_driver_lem q) = no_driver_lem (rw (q, e))
        as_before e (its_driver k l t q) = its_driver k (omega arith) t (rw (q, e, append-nil))

    pub one_driver : (n : ℕ) → n ≤ length M.drivers → Single n
    unfolding join_below
    one_driver zero h = no_driver_lem refl
    one_driver (suc n) h = one_more n h (one_driver n (omega arith))

-- a logic value is a code
code : (v : ℕ) → ValueOf logic v → v < 9
unfolding value_ok
code v h = omega (arith, leb-true v 8 h)

of_code : (v : ℕ) → v < 9 → ValueOf logic v
unfolding value_ok
of_code v h = le-leb v 8 (omega arith)

resolved_code : (M : Model) → Facts M → (other : ℕ) (vs : List ℕ) → other < 9 → All (λ v. v < 9) vs → resolved_or M other vs < 9
resolved_code M fs other [] h a = h
resolved_code M fs other (v ∷ vs) h a = (resolution_laws _ fs.pairs).code (v ∷ vs) (λ k l. all_at (λ v. v < 9) 0 (v ∷ vs) a k l)

-- what a driver of a logic signal adds to the resolution is a code
codes : (d : SignalRecord) → d.ty ≡ logic → (x : Driven) → Carries d x → All (λ v. v < 9) (values_of x)
codes d e (To v) c = (code v (rw e at c), tt)
codes d e Null c = tt

-- the resolution of what one driver carries
alone : (M : Model) → Facts M → (d : SignalRecord) (other : ℕ) (x : Driven) → ValueOf d.ty other → Carries d x → ValueOf d.ty (resolved_or M other (values_of x))
alone M fs d other (To v) h c = rw ((resolution_laws _ fs.pairs).one v) c
alone M fs d other Null h c = h

module _ (M : Model) (fs : Facts M) (ds : List DriverState) (s other : ℕ) (here : s < length M.signals)
    (each : (k : ℕ) → k < length M.drivers → (driver_at M k).signal ≡ s → Carries (signal_at M s) (driver_in ds k).current)
    (else : ValueOf (signal_at M s).ty other)
  where
    -- an integer signal has the value of its driver
    of_integer : (signal_at M s).ty ≡ integer → ValueOf (signal_at M s).ty (resolved_or M other (driving_of M ds s))
    unfolding driving_of
    of_integer e = by_drivers (one_driver M ds s single (length M.drivers) (omega arith))
      where
        single : (i j : ℕ) → i < length M.drivers → j < length M.drivers → (driver_at M i).signal ≡ s → (driver_at M j).signal ≡ s → i ≡ j
        single i j h l p q = fs.single i j h l (p ∙ sym q) (rw p e)

        by_drivers : Single M ds s (length M.drivers) → ValueOf (signal_at M s).ty (resolved_or M other (driving_of M ds s))
        by_drivers (no_driver_lem q) = rw q else
        by_drivers (its_driver k l t q) = rw q (alone M fs (signal_at M s) other (driver_in ds k).current else (each k l t))

    of_logic : (signal_at M s).ty ≡ logic → ValueOf (signal_at M s).ty (resolved_or M other (driving_of M ds s))
    of_logic e =
        let l : ValueOf logic other = rw e at else in
        rw e
        (of_code (resolved_or M other (driving_of M ds s))
        (resolved_code M fs other (driving_of M ds s) (code other l) (driving_all M ds s (λ v. v < 9) (λ k l t. codes (signal_at M s) e (driver_in ds k).current (each k l t)))))

    -- the resolution of values of the signal's type is of that type
    pub resolved_typed : ValueOf (signal_at M s).ty (resolved_or M other (driving_of M ds s))
    resolved_typed = among (λ t. (signal_at M s).ty ≡ t → ValueOf (signal_at M s).ty (resolved_or M other (driving_of M ds s))) 0 2 (signal_at M s).ty (of_integer and of_logic and tt) (omega arith) (omega (arith, (fs.signal s here).ty)) refl
