-- Runs of picks and advances, and random descent (Newman's word, 1942): where picks have the diamond, all runs from a
-- configuration to a normal form by equally many advances have equally many picks and one end.
-- Assumes nothing.
use mathlib.Core.Path.{◌≡◌, refl, sym, ◌∙◌, ap}
use mathlib.Core.Bool.{true, true≢false}
use Prim.Native.Nat.{ℕ, zero, suc, ◌+◌, ◌-◌, ◌≤◌}
use native.Mathlib.Nat.{zero-add, suc-add}
use native.Mathlib.Decide.{ℕ_discrete}
use native.Mathlib.Omega.{arith}
use Rattle.determinacy.specs.Kernel.{Kernel, Laws, NormalForm}
use Rattle.determinacy.specs.Determinacy.{Tally, Exactly, Determinacy}

module _ (K : Kernel) where
  open K use {Conf, ready, step, can_advance, advanced}

  -- `Run c a n e`: from c to e by a advances and n picks.
  pub data Run : Conf → ℕ → ℕ → Conf → Type 0 where
    stay : {c : Conf} → Run c 0 0 c
    by_pick : {c e : Conf} {a n : ℕ} (p : ℕ) → ready p c ≡ true → Run (step p c) a n e → Run c a (suc n) e
    by_advance : {c e : Conf} {a n : ℕ} → can_advance c ≡ true → Run (advanced c) a n e → Run c (suc a) n e

  -- A run to d and one from d are a run.
  pub join : {c d e : Conf} {a b n m : ℕ} → Run c a n d → Run d b m e → Run c (a + b) (n + m) e
  join stay s = simp zero-add s
  join (by_pick p r t) s = rw suc-add (by_pick p r (join t s))
  join (by_advance r t) s = rw suc-add (by_advance r (join t s))

  not_ready : {c : Conf} {p : ℕ} → NormalForm K c → ready p c ≡ true → ⊥
  not_ready {p = p} q r = true≢false (sym r ∙ q p)

  module _ (L : Laws K) where
    open L use {Sound, step_sound, advanced_sound, advances_normal, stays_ready, commutes}

    -- The diamond along a run to a normal form: a pick that can be done now is one that the run does, and may be done first.
    diamond : {c e : Conf} {a n : ℕ} → Sound c → NormalForm K e → Run c a n e → (p : ℕ) → ready p c ≡ true
        → (m : ℕ) × (n ≡ suc m) × Run (step p c) a m e
    diamond s q stay p r = absurd (not_ready q r)
    diamond {c} s q (by_pick {n = n} x rx t) p r = elim (ℕ_discrete x p) [
      | yes same ↦ (n, refl, rw same at t)
      | no other ↦
          let (m, less, u) = diamond (step_sound x c s rx) q t p (stays_ready x p c s other rx r) in
          (suc m, ap suc less, by_pick x (stays_ready p x c s (λ e. other (sym e)) r rx) (rw (commutes x p c s other rx r) at u))
    ]
    diamond s q (by_advance rx t) p r = absurd (not_ready (advances_normal _ s rx) r)

    -- A run from a configuration that can advance begins with the advance.
    after_advance : {c e : Conf} {a n : ℕ} → Sound c → can_advance c ≡ true → Run c (suc a) n e → Run (advanced c) a n e
    after_advance s r (by_pick x rx t) = absurd (not_ready (advances_normal _ s r) rx)
    after_advance s r (by_advance ra t) = t

    -- Random descent: beside a run to a normal form, another by as many advances has some picks left, which lead there.
    descent : {c d e : Conf} {a n k : ℕ} → Sound c → NormalForm K e → Run c a n e → Run c a k d
        → (m : ℕ) × (n ≡ k + m) × Sound d × Run d 0 m e
    descent {n = n} s q t stay = (n, sym (zero-add n), s, t)
    descent s q t (by_pick p r u) =
        let (n, less, v) = diamond s q t p r in
        let (m, sum, sound, w) = descent (step_sound p _ s r) q v u in
        (m, omega arith, sound, w)
    descent s q t (by_advance r u) = descent (advanced_sound _ s r) q (after_advance s r t) u

    -- A run of n picks to a normal form says of all picks what `Exactly n` says.
    exactly : {c e : Conf} (n : ℕ) → Sound c → NormalForm K e → Run c 0 n e → Exactly K n c e
    exactly zero s q stay = (q, refl)
    exactly {c = c} {e = e} (suc n) s q (by_pick x rx t) = (
      (x, rx),
      λ p r.
          let (m, less, u) = diamond s q (by_pick x rx t) p r in
          let same : m ≡ n = omega arith in
          exactly {c = step p c} {e = e} n (step_sound p _ s r) q (rw same at u),
    )

    behind_run : {first c d : Conf} {a n k : ℕ} → Sound first → NormalForm K c → Run first a n c → Run first a k d
        → (k ≤ n) × Exactly K (n - k) d c
    behind_run {n = n} {k = k} s q r t =
        let (m, sum, sound, rest) = descent s q r t in
        let left : m ≡ n - k = omega arith in
        (omega arith, rw left at (exactly m sound q rest))

    alike_run : {first c d : Conf} {a n k : ℕ} → Sound first → NormalForm K c → NormalForm K d → Run first a n c → Run first a k d
        → (n ≡ k) × (c ≡ d)
    alike_run {n = n} {k = k} s qc qd r t =
        let (at_most, rest) = behind_run s qc r t in
        let (at_least_lem, _) = behind_run s qd t r in
        let none_left : n - k ≡ 0 = omega arith in
        (omega arith, sym (rw none_left at rest).1)

    -- Lists that play runs from one sound configuration are determinate.
    pub determinate : {List : Type 0} (play : List → Tally Conf) (first : Conf) → Sound first
        → ((xs : List) → Run first (play xs).advances (play xs).picks (play xs).end) → Determinacy K play
    determinate play first s run = record {
      alike = λ xs ys qx qy same.
          let both = alike_run s qx qy (run xs) (rw (← same) at (run ys)) in
          record { same_picks = both.0; same_end = both.1 };
      behind = λ xs ys q same.
          let both = behind_run s q (run xs) (rw (← same) at (run ys)) in
          record { at_most = both.0; still_to_do = both.1 };
    }
