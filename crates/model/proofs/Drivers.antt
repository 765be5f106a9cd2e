-- The laws of drivers: their pairs strictly rise, so that each pair has one driver. Assumes nothing.
use mathlib.Core.Path.{◌≡◌, refl}
use mathlib.Core.Bool.{Bool, true, false, ◌&&◌}
use mathlib.Core.Logic.{⊎_elim}
use Prim.Native.Nat.{ℕ, zero, suc, ◌+◌, ◌≤◌, ◌<◌}
use native.Mathlib.Nat.{not-suc-le-zero, eq-or-lt_of_le, le_of_suc-le-suc}
use native.Mathlib.Numerals.{add-one}
use native.Mathlib.Omega.{arith}
use borrow.Author.Tests.{eqb-true, ltb-true, leb-true, eq-eqb}
use lib.Dec.{eqb, ltb}
use lib.ListN.{length}
use mir.Val.{bool_byte}
use Rattle.base.specs.Cases.{◌∣◌, ◌⇒◌}
use Rattle.base.specs.Course.{first_with}
use Rattle.base.proofs.Below.{every_at, all_at, and_left, and_right, sum_below_lem, or_cases}
use Rattle.base.proofs.Course.{first_found, first_at, first_within}
use Rattle.blocks.specs.Records.{Model, signal_at, driver_at}
use Rattle.fields.specs.Fields.{driver_ok, fields_ok}
use Rattle.trees.specs.Trees.{integer}
use Rattle.model.specs.Owners.{pair_below, drivers_rise, drivers_of, single_ok, driver_for, owners_ok}
use Rattle.model.specs.Facts.{Drives, PairsRise}

and_fails : (a b : Bool) → (a ≡ true → b ≡ true → ⊥) → (a && b) ≡ false
and_fails true true h = absurd (h refl refl)
and_fails true false h = refl
and_fails false b h = refl

-- one that passes counts 1
pub counted : (b : Bool) → bool_byte b ≡ (b ⇒ 1 ∣ 0)
counted true = refl
counted false = refl

module _ (M : Model) where
  -- the test that finds the driver of process p for signal s
  abbrev pub is_for : ℕ → ℕ → ℕ → Bool
  is_for p s i = eqb (driver_at M i).process p && eqb (driver_at M i).signal s

  pub drives : (p s : ℕ) → driver_for M p s < length M.drivers → Drives M p s (driver_for M p s)
  unfolding driver_for
  drives p s h =
      let k = first_with (is_for p s) (length M.drivers) in
      let t = first_at (is_for p s) (length M.drivers) h in
      record {
        process = eqb-true _ p (and_left (eqb (driver_at M k).process p) _ t);
        signal = eqb-true _ s (and_right (eqb (driver_at M k).process p) _ t);
      }

  pub driver_most : (p s : ℕ) → driver_for M p s ≤ length M.drivers
  unfolding driver_for
  driver_most p s = first_within (is_for p s) (length M.drivers)

  module _ (ok : owners_ok M ≡ true) where
    pair_rises : (i : ℕ) → i + 1 < length M.drivers → pair_below (driver_at M i) (driver_at M (i + 1)) ≡ true
    unfolding owners_ok drivers_rise
    pair_rises i h = all_at (λ k. pair_below (driver_at M k) (driver_at M (k + 1))) _ i (omega arith) (every_at _ 0 ok)

    rise_next : (i : ℕ) → i + 1 < length M.drivers → PairsRise M i (i + 1)
    unfolding pair_below
    rise_next i h =
        let d = driver_at M i in
        let e = driver_at M (i + 1) in
        ⊎_elim
        (λ (t : ltb d.process e.process ≡ true).
        let l : d.process < e.process = ltb-true _ _ t in
        record { process = omega arith; signal = λ q. absurd (omega arith) })
        (λ (t : (eqb d.process e.process && ltb d.signal e.signal) ≡ true).
        let q : d.process ≡ e.process = eqb-true _ _ (and_left (eqb d.process e.process) _ t) in
        record { process = omega arith; signal = λ _. ltb-true _ _ (and_right (eqb d.process e.process) _ t) })
        (or_cases (ltb d.process e.process) _ (pair_rises i h))

    pub rise : (i j : ℕ) → i < j → j < length M.drivers → PairsRise M i j
    rise i zero l h = absurd (not-suc-le-zero l)
    rise i (suc j) l h =
        let n : PairsRise M j (suc j) = rw add-one at (rise_next j (omega arith)) in
        ⊎_elim (λ (k : i ≡ j). rw k n)
        (λ (k : i < j).
        let b = rise i j k (omega arith) in
        record {
          process = omega (arith, b.process, n.process);
          signal =
              λ q.
              let u : (driver_at M i).process ≡ (driver_at M j).process = omega (arith, b.process, n.process) in
              omega (arith, b.signal u, n.signal (omega arith));
        })
        (eq-or-lt_of_le (le_of_suc-le-suc l))

    pub found : (k : ℕ) → k < length M.drivers → driver_for M (driver_at M k).process (driver_at M k).signal ≡ k
    unfolding driver_for
    found k h =
        let p = (driver_at M k).process in
        let s = (driver_at M k).signal in
        first_found (is_for p s) (length M.drivers) k h
        (λ i l.
        and_fails (eqb (driver_at M i).process p) (eqb (driver_at M i).signal s)
        (λ t u. omega (arith, (rise i k l h).signal (eqb-true _ p t), eqb-true _ s u)))
        (rw (eq-eqb p p refl, eq-eqb s s refl))

    -- two drivers of one signal count as two
    two : (i j : ℕ) → i < j → j < length M.drivers → (driver_at M i).signal ≡ (driver_at M j).signal → 2 ≤ drivers_of M (driver_at M j).signal
    unfolding drivers_of
    two i j l h e =
        let s = (driver_at M j).signal in
        let f : ℕ → ℕ = λ n. (eqb (driver_at M n).signal s ⇒ 1 ∣ 0) in
        let a : 0 < f i = rw (eq-eqb (driver_at M i).signal s e) (omega arith) in
        let b : 0 < f j = rw (eq-eqb s s refl) (omega arith) in
        omega (arith, sum_below_lem f j i 0 l a, sum_below_lem f (length M.drivers) j 0 h b)

    single_ok_lem : (s : ℕ) → s < length M.signals → (signal_at M s).ty ≡ integer → drivers_of M s ≤ 1
    unfolding owners_ok single_ok
    single_ok_lem s h e = leb-true _ 1 (rw e at (all_at (single_ok M) _ s h (every_at _ 1 ok)))

    pub single : (i j : ℕ) → i < j → j < length M.drivers → (driver_at M j).signal < length M.signals → (driver_at M i).signal ≡ (driver_at M j).signal → (signal_at M (driver_at M j).signal).ty ≡ integer → ⊥
    single i j l h g e t = omega (arith, two i j l h e, single_ok_lem (driver_at M j).signal g t)

module _ (M : Model) (ok : fields_ok M ≡ true) (k : ℕ) (h : k < length M.drivers) where
  driver_ok_lem : driver_ok M (driver_at M k) ≡ true
  unfolding fields_ok
  driver_ok_lem = all_at (λ n. driver_ok M (driver_at M n)) _ k h (every_at _ 4 ok)

  pub driver_process : (driver_at M k).process < length M.processes
  unfolding driver_ok
  driver_process = ltb-true _ _ (every_at _ 0 driver_ok_lem)

  pub driver_signal : (driver_at M k).signal < length M.signals
  unfolding driver_ok
  driver_signal = ltb-true _ _ (every_at _ 1 driver_ok_lem)
