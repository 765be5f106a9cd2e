-- Kernels of picks, delta steps and time steps, as far as the bound on delta steps asks: who is ready, which drivers have a
-- transaction due now, which processes a deadline.
-- Assumes nothing.
use Rattle.std.specs.Prelude.{◌≡◌, Bool, true, ◌⊎◌, ℕ, ◌<◌}

pub record Kernel : Type 1 where
  pub Conf : Type 0
  pub time : Conf → ℕ
  -- a pick of the process can be done, and what it does
  pub can_pick : ℕ → Conf → Bool
  pub picked : ℕ → Conf → Conf
  pub can_delta : Conf → Bool
  pub delta : Conf → Conf
  pub can_time : Conf → Bool
  pub timed : Conf → Conf

-- What a model fixes: the processes, and for each driver its process and its signal.
pub record Wiring : Type 1 where
  pub processes : ℕ
  pub owner : ℕ → ℕ
  pub signal : ℕ → ℕ
  -- the process has an assignment to the signal whose c is not a constant node above 0
  pub Assigns : ℕ → ℕ → Type 0
  -- the signal is in some wait set of the process
  pub Waits : ℕ → ℕ → Type 0
  -- the first process leads to the second
  pub leads : ℕ → ℕ → Bool
  pub leads_by : (p q s : ℕ) → Assigns p s → Waits q s → leads p q ≡ true

-- The laws. They need hold only of the configurations that are sound, as every pick, delta step and time step leaves them.
pub record Laws (W : Wiring) (K : Kernel) : Type 1 where
  pub Sound : K.Conf → Type 0
  -- driver k has a transaction due now
  pub Due : ℕ → K.Conf → Type 0
  -- process p has a deadline due now
  pub Expires : ℕ → K.Conf → Type 0
  pub pick_sound : (p : ℕ) (c : K.Conf) → Sound c → K.can_pick p c ≡ true → Sound (K.picked p c)
  pub delta_sound : (c : K.Conf) → Sound c → K.can_delta c ≡ true → Sound (K.delta c)
  pub time_sound : (c : K.Conf) → Sound c → K.can_time c ≡ true → Sound (K.timed c)
  -- only processes that are there can be picked
  pub pick_there : (p : ℕ) (c : K.Conf) → Sound c → K.can_pick p c ≡ true → p < W.processes
  -- a pick makes no process ready,
  pub pick_ready : (p q : ℕ) (c : K.Conf) → Sound c → K.can_pick p c ≡ true → K.can_pick q (K.picked p c) ≡ true → K.can_pick q c ≡ true
  -- brings no transaction due now but by an assignment without delay of the process picked,
  pub pick_due : (p k : ℕ) (c : K.Conf) → Sound c → K.can_pick p c ≡ true → Due k (K.picked p c)
      → Due k c ⊎ ((W.owner k ≡ p) × W.Assigns p (W.signal k))
  -- sets no deadline to now,
  pub pick_expires : (p q : ℕ) (c : K.Conf) → Sound c → K.can_pick p c ≡ true → Expires q (K.picked p c) → Expires q c
  -- and leaves the time
  pub pick_time : (p : ℕ) (c : K.Conf) → Sound c → K.can_pick p c ≡ true → K.time (K.picked p c) ≡ K.time c
  -- a delta step is done where something is due now,
  pub delta_why : (c : K.Conf) → Sound c → K.can_delta c ≡ true → ((k : ℕ) × Due k c) ⊎ ((q : ℕ) × Expires q c)
  -- readies processes by their deadlines and by signals of their wait sets that a due transaction drives,
  pub delta_ready : (q : ℕ) (c : K.Conf) → Sound c → K.can_delta c ≡ true → K.can_pick q (K.delta c) ≡ true
      → Expires q c ⊎ ((k : ℕ) × Due k c × W.Waits q (W.signal k))
  -- leaves no transaction and no deadline due now,
  pub delta_due : (k : ℕ) (c : K.Conf) → Sound c → K.can_delta c ≡ true → Due k (K.delta c) → ⊥
  pub delta_expires : (q : ℕ) (c : K.Conf) → Sound c → K.can_delta c ≡ true → Expires q (K.delta c) → ⊥
  -- and leaves the time
  pub delta_time : (c : K.Conf) → Sound c → K.can_delta c ≡ true → K.time (K.delta c) ≡ K.time c
  -- a time step goes to a later time
  pub time_later : (c : K.Conf) → Sound c → K.can_time c ≡ true → K.time c < K.time (K.timed c)
