-- The bound of document 02, item 11: "every list of orders from the start makes at most P + 1 delta steps at any one time, P being the number of
-- processes."
-- Assumes nothing.
use Rattle.std.specs.Prelude.{◌≡◌, true, ℕ, ◌+◌, ◌≤◌, eqb}
use Rattle.base.specs.Cases.{◌∣◌, ◌⇒◌}
use Rattle.loops.specs.Kernel.{Kernel}

module _ (K : Kernel) (t : ℕ) where
  open K use {Conf, time, can_pick, picked, can_delta, delta, can_time, timed}

  -- `Run c n e`: from c to e by picks, delta steps and time steps, n of the delta steps at the time t.
  pub data Run : Conf → ℕ → Conf → Type 0 where
    stay : {c : Conf} → Run c 0 c
    by_pick : {c e : Conf} {n : ℕ} (p : ℕ) → can_pick p c ≡ true → Run (picked p c) n e → Run c n e
    by_delta : {c e : Conf} {n : ℕ} → can_delta c ≡ true → Run (delta c) n e → Run c ((eqb (time c) t ⇒ 1 ∣ 0) + n) e
    by_time : {c e : Conf} {n : ℕ} → can_time c ≡ true → Run (timed c) n e → Run c n e

-- The claim, `steps t xs` being how many delta steps the list xs makes at the time t.
pub record FewSteps {List : Type 0} (steps : ℕ → List → ℕ) (P : ℕ) : Type 0 where
  pub at_most : (t : ℕ) (xs : List) → steps t xs ≤ P + 1
