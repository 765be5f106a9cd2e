-- The signals of a delta step: the loops that mark the active ones and that resolve them. Assumes nothing.
use mathlib.Core.Path.{◌≡◌, refl, sym, ◌∙◌}
use mathlib.Core.Bool.{true, false, not, ◌&&◌, ◌||◌, and-false, or-false}
use mathlib.Core.List.{List}
use Prim.Native.Nat.{ℕ, ◌+◌, ◌*◌, ◌≤◌, ◌<◌}
use native.Mathlib.Nat.{add-zero, le_antisymm}
use native.Mathlib.Decide.{ℕ_discrete}
use native.Mathlib.Omega.{arith}
use lib.Dec.{eqb}
use lib.ListN.{length, get_or, set, length-set}
use lib.Seq.{get_or-set_same, get_or-set_other}
use borrow.Author.Count.{below_none, below_more}
use borrow.Author.Tests.{eq-eqb, ne_eqb}
use Rattle.base.proofs.Below.{any_start, any_next}
use Rattle.sets.specs.Sets.{in_set, SetOf}
use Rattle.blocks.specs.Records.{Model, signal_at, driver_at}
use Rattle.blocks.specs.declared.records.DriverRecord.{DriverRecord}
use Rattle.model.specs.Facts.{Facts}
use Rattle.rules.specs.Configuration.{resolved_or}
use Rattle.rules.specs.Steps.{undriven}
use Rattle.steps.specs.Entries.{driving_in}
use Rattle.steps.specs.Delta.{active_in, KeptTo, current_after, ResolvedTo}
use Rattle.sets.proofs.Bits.{in_none}

-- one driver after the other
module _ (M : Model) (due : List ℕ) (t : ℕ) where
  pub active_none : SetOf (active_in M due t 0) 0
  unfolding active_in
  active_none = record { at = λ s h. in_none s ∙ sym (any_start _) }

  -- driver k has a transaction due, on the signal n
  pub active_more : (k n set r : ℕ) → n ≡ (driver_at M k).signal → get_or due k 0 ≡ t → SetOf (λ s. in_set set s || (eqb n s && true)) r → SetOf (active_in M due t k) set → SetOf (active_in M due t (k + 1)) r
  unfolding active_in
  active_more k n set r e d w a = record { at = λ s h. w.at s h ∙ rw (any_next, a.at s h, e, eq-eqb (get_or due k 0) t d) }

  pub active_same : (k set : ℕ) → (get_or due k 0 ≡ t → ⊥) → SetOf (active_in M due t k) set → SetOf (active_in M due t (k + 1)) set
  unfolding active_in
  active_same k set d a = record { at = λ s h. a.at s h ∙ rw (any_next, ne_eqb (get_or due k 0) t d, and-false, or-false) }

  pub active_all : (k n set : ℕ) → k ≤ n → n ≤ k → SetOf (active_in M due t k) set → SetOf (active_in M due t n) set
  active_all k n set h g a = rw (le_antisymm h g) at a

-- a driver's signal is one of the 32
pub signal_below : (M : Model) → Facts M → (k : ℕ) (d : DriverRecord) → k < length M.drivers → d ≡ driver_at M k → d.signal < 32
signal_below M fs k d h e = rw e (omega (arith, (fs.driver k h).signal, fs.totals.signals))

-- the current values of one signal after the other are kept as the earlier ones
module _ (old : List ℕ) where
  pub kept_none : KeptTo old 0 old
  kept_none = record { long = refl; earlier = below_none _; other = λ j h. refl }

  pub kept_more : (j : ℕ) (new : List ℕ) → j < 32 → length old ≡ 1056 → KeptTo old j new → KeptTo old (j + 1) (set new (1024 + j) (get_or new (32 * j) 0))
  kept_more j new h long r =
      record {
        long = length-set new (1024 + j) _ ∙ r.long;
        earlier =
            below_more _ _ (λ s l. elsewhere (1024 + s) (λ e. omega arith) ∙ r.earlier s l)
            (get_or-set_same new (1024 + j) _ 0 (omega (arith, r.long)) ∙ r.other (32 * j) (λ l. omega arith));
        other = λ i l. elsewhere i (λ e. omega (arith, l (omega arith))) ∙ r.other i (λ g. omega (arith, l g));
      }
    where
      elsewhere : (i : ℕ) → (i ≡ 1024 + j → ⊥) → get_or (set new (1024 + j) (get_or new (32 * j) 0)) i 0 ≡ get_or new i 0
      elsewhere i e = get_or-set_other new (1024 + j) i _ 0 e

  pub kept_all : (j n : ℕ) (new : List ℕ) → j ≤ n → n ≤ j → KeptTo old j new → KeptTo old n new
  kept_all j n new h g r = rw (le_antisymm h g) at r

-- one signal after the other
module _ (M : Model) (currents : List ℕ) (ndrivers active : ℕ) (old : List ℕ) where
  pub resolved_none : ResolvedTo M currents ndrivers active old 0 old 0
  resolved_none =
      record {
        current = below_none _;
        other = λ s k h g. refl;
        changed = record { at = λ s h. in_none s ∙ rw (eq-eqb (get_or old (32 * s) 0) (get_or old (32 * s) 0) refl) };
      }

  module _ (j : ℕ) (new : List ℕ) (changes : ℕ) (r : ResolvedTo M currents ndrivers active old j new changes) where
    -- signal j has its old value before its turn
    before_turn : get_or new (32 * j) 0 ≡ get_or old (32 * j) 0
    before_turn = simp add-zero at (r.other j 0 (omega arith) (λ e. omega arith))

    -- it is not active
    pub resolved_same : in_set active j ≡ false → ResolvedTo M currents ndrivers active old (j + 1) new changes
    unfolding current_after
    resolved_same e =
        record {
          current = below_more _ _ r.current (rw e before_turn);
          other = λ s k h g. r.other s k h (λ q. omega (arith, g q));
          changed = r.changed;
        }

    -- it is active, and v the resolution of its drivers' values, o being its old value
    module _ (o v changes' : ℕ) (a : in_set active j ≡ true) (l : 32 * j < length new) (e : o ≡ get_or new (32 * j) 0)
        (is : v ≡ resolved_or M (undriven (signal_at M j) o) (driving_in M currents j ndrivers)) (w : SetOf (λ s. in_set changes s || (eqb j s && not (eqb o v))) changes')
      where
        abbrev new' : List ℕ
        new' = set new (32 * j) v

        here : get_or new' (32 * j) 0 ≡ v
        here = get_or-set_same new (32 * j) v 0 l

        elsewhere : (i : ℕ) → (i ≡ 32 * j → ⊥) → get_or new' i 0 ≡ get_or new i 0
        elsewhere i q = get_or-set_other new (32 * j) i v 0 q

        current' : (s : ℕ) → s < j + 1 → get_or new' (32 * s) 0 ≡ current_after M currents ndrivers active old s
        unfolding current_after
        current' = below_more _ _ (λ s h. elsewhere (32 * s) (λ p. omega arith) ∙ r.current s h) (rw (a, here, ← before_turn, ← e) is)

        other' : (s k : ℕ) → k < 32 → (k ≡ 0 → j + 1 ≤ s) → get_or new' (32 * s + k) 0 ≡ get_or old (32 * s + k) 0
        other' s k h g =
            elsewhere (32 * s + k) (λ p. let z : k ≡ 0 = omega arith in omega (arith, g z)) ∙ r.other s k h (λ z. omega (arith, g z))

        changed' : (s : ℕ) → s < 32 → in_set changes' s ≡ not (eqb (get_or old (32 * s) 0) (get_or new' (32 * s) 0))
        changed' s h =
            w.at s h
            ∙ elim (ℕ_discrete j s) [
              | yes q ↦ rw (← q, r.changed.at j (omega arith), here, ← before_turn, ← e, eq-eqb o o refl, eq-eqb j j refl)
              | no q ↦ rw (ne_eqb j s q, r.changed.at s h, elsewhere (32 * s) (λ p. q (omega arith)), or-false)
            ]

        pub resolved_more : ResolvedTo M currents ndrivers active old (j + 1) new' changes'
        resolved_more = record { current = current'; other = other'; changed = record { at = changed' } }

  pub resolved_all : (j n : ℕ) (new : List ℕ) (changes : ℕ) → j ≤ n → n ≤ j → ResolvedTo M currents ndrivers active old j new changes → ResolvedTo M currents ndrivers active old n new changes
  resolved_all j n new changes h g r = rw (le_antisymm h g) at r
