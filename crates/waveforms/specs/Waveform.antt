-- What a driver's functions promise of its waveform.
use Rattle.std.specs.Prelude.{◌≡◌, true, false, List, ◌++◌, ℕ, ◌+◌, suc, ◌≤◌, ◌<◌, get_or, drop, Option, Some, None, is_none}
use Rattle.rules.specs.declared.driven.Driven.{Driven}
use Rattle.rules.specs.declared.mechanism.Mechanism.{Mechanism}
use Rattle.rules.specs.Configuration.{Transaction, DriverState}
use Rattle.rules.specs.Statements.{before, only, equal_value, left_by, scheduled, overflows, driver_after}
use Rattle.waveforms.specs.Pending.{driven_of, NoneBefore, pending_of}
use Rattle.waveforms.specs.declared.driver.Driver.{Driver}

-- "a waveform of at most eight pending transactions (time, value), rising in time"
pub record Waveform (d : Driver) : Type 0 where
  pub few : d.count ≤ 8
  pub rising : (j k : ℕ) → j < k → k < d.count → get_or d.times j 0 < get_or d.times k 0

-- n is the place of the first of the first c times that does not lie before the time at
pub record Kept (ts : List ℕ) (c at n : ℕ) : Type 0 where
  pub within : n ≤ c
  pub below : (k : ℕ) → k < n → get_or ts k 0 < at
  pub stop : n < c → at ≤ get_or ts n 0

-- of the first c words those from n on have the value of v
pub record Run (vs : List ℕ) (c : ℕ) (v : Driven) (n : ℕ) : Type 0 where
  pub within : n ≤ c
  pub equal : (k : ℕ) → n ≤ k → k < c → equal_value (driven_of (get_or vs k 0)) v ≡ true

-- and the one before them has not
pub record RunStart (vs : List ℕ) (c : ℕ) (v : Driven) (n : ℕ) : Type 0 where
  pub run : Run vs c v n
  pub other : (k : ℕ) → suc k ≡ n → equal_value (driven_of (get_or vs k 0)) v ≡ false

-- each of the first c times is n less
abbrev pub Nearer : List ℕ → ℕ → ℕ → List ℕ → Type 0
Nearer old c n new = (j : ℕ) → j < c → n + get_or new j 0 ≡ get_or old j 0

-- a driver with the current value x, or null, at the time t
abbrev pub driving : ℕ → Driven → Driver → DriverState
driving t x d = record { current = x; pending = pending_of t d }

-- at any time r has pending what the removal leaves of d's transactions
pub record Remains (removal : ℕ → List Transaction → List Transaction) (d r : Driver) : Type 0 where
  pub pending : (t : ℕ) → pending_of t r ≡ removal t (pending_of t d)
  pub few : r.count ≤ 8

-- the removal of those in delay units or later, and of the first n
abbrev pub BeforeTime : ℕ → Driver → Driver → Type 0
BeforeTime delay = Remains (λ t. before (t + delay))

abbrev pub Without : ℕ → Driver → Driver → Type 0
Without n = Remains (λ t. drop n)

-- r has what a delay leaves of d's pending transactions before a new one of v
pub record LeftBy (m : Mechanism) (v : Driven) (d r : Driver) : Type 0 where
  pub pending : (t at : ℕ) → pending_of t r ++ only at v ≡ left_by m (pending_of t d ++ only at v)
  pub few : r.count ≤ 8

-- the driver that a schedule leaves: d where it was refused
abbrev pub left_or : Driver → Option Driver → Driver
left_or d (Some r) = r
left_or d None = d

-- a schedule of v, a value or null, in some units: whatever the time and the current value are, the driver is what the rules make of it
pub record ScheduledTo (d : Driver) (delay : ℕ) (v : Driven) (m : Mechanism) (r : Option Driver) : Type 0 where
  pub driver : (t : ℕ) (x : Driven) → driving t x (left_or d r) ≡ driver_after m (t + delay) v (driving t x d)
  pub full : (t : ℕ) → is_none r ≡ overflows (scheduled m (pending_of t d) (t + delay) v)
  pub few : (left_or d r).count ≤ 8

-- at most eight are pending, each in n units or later
pub record Ahead (n : ℕ) (d : Driver) : Type 0 where
  pub few : d.count ≤ 8
  pub far : NoneBefore n d.times d.count

-- n units after any time t, r has pending what d has at t
abbrev pub Elapsed : ℕ → Driver → Driver → Type 0
Elapsed n d r = (t : ℕ) → pending_of (t + n) r ≡ pending_of t d
