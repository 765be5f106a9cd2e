-- Kernels of picks and advances as an abstract rewriting system: a done pick is a step, and a configuration from which no pick
-- can be done is a normal form. Diamond and normal form are the words of Terese, Term Rewriting Systems (2003), chapter 1.
-- Assumes nothing.
use Rattle.std.specs.Prelude.{◌≡◌, Bool, true, false, ◌≢◌, ℕ}

-- A kernel: its configurations, what a pick needs and does, and what an advance needs and does.
pub record Kernel : Type 1 where
  pub Conf : Type 0
  -- a pick of the process can be done
  pub ready : ℕ → Conf → Bool
  -- what a done pick of the process does
  pub step : ℕ → Conf → Conf
  -- an advance can be done
  pub can_advance : Conf → Bool
  -- what a done advance does
  pub advanced : Conf → Conf

-- A normal form: no process is ready.
abbrev pub NormalForm : (K : Kernel) → K.Conf → Type 0
NormalForm K c = (p : ℕ) → K.ready p c ≡ false

-- The laws of a kernel. They need hold only of the configurations that are sound, as every done pick and advance leaves them.
pub record Laws (K : Kernel) : Type 1 where
  pub Sound : K.Conf → Type 0
  pub step_sound : (p : ℕ) (c : K.Conf) → Sound c → K.ready p c ≡ true → Sound (K.step p c)
  pub advanced_sound : (c : K.Conf) → Sound c → K.can_advance c ≡ true → Sound (K.advanced c)
  -- an advance is done only in a normal form
  pub advances_normal : (c : K.Conf) → Sound c → K.can_advance c ≡ true → NormalForm K c
  -- the diamond: of two processes that are ready, a pick of one leaves the other ready,
  pub stays_ready : (p q : ℕ) (c : K.Conf) → Sound c → p ≢ q → K.ready p c ≡ true → K.ready q c ≡ true
      → K.ready q (K.step p c) ≡ true
  -- and their picks commute
  pub commutes : (p q : ℕ) (c : K.Conf) → Sound c → p ≢ q → K.ready p c ≡ true → K.ready q c ≡ true
      → K.step q (K.step p c) ≡ K.step p (K.step q c)
