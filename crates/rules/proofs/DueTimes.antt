-- The earliest due time of a reachable configuration: not before now, after it where nothing is due now, and within its limit.
-- Assumes nothing.
use mathlib.Core.Path.{◌≡◌}
use mathlib.Core.Bool.{Bool, false}
use mathlib.Core.List.{List, [], ◌∷◌}
use mathlib.Core.Option.{Option, none, some}
use Prim.Native.Nat.{ℕ, ◌≤◌, ◌<◌}
use native.Mathlib.Omega.{arith}
use lib.ListN.{length}
use borrow.Author.Tests.{eqb-false}
use Rattle.base.specs.Below.{any_below, All}
use Rattle.base.proofs.Below.{or_left, or_right, any_none}
use Rattle.blocks.specs.Records.{Model}
use Rattle.rules.specs.Configuration.{Transaction, Configuration, driver_in, process_in}
use Rattle.rules.specs.Steps.{due_in, transaction_due, deadline_at, deadline_due}
use Rattle.rules.specs.Orders.{times_in, optional, earliest, due_times, due_now}
use Rattle.rules.specs.Invariant.{last_due, Rising, DeadlineValid, Reachable}
use Rattle.rules.proofs.Earliest.{earliest_is, due_each}

pub record Within (now u : ℕ) : Type 0 where
  pub from : now ≤ u
  pub most : u ≤ last_due

transaction_within : (t : ℕ) (w : List Transaction) → Rising t w → All (Within t) (times_in w)
transaction_within t [] r = tt
transaction_within t (x ∷ w) r = (record { from = r.0; most = r.1 }, tt)

deadline_within : (t : ℕ) (o : Option ℕ) → DeadlineValid t o → All (Within t) (optional o)
deadline_within t none d = tt
deadline_within t (some u) d = (record { from = d.0; most = d.1 }, tt)

transaction_after : (t : ℕ) (w : List Transaction) → due_in t w ≡ false → Rising t w → All (λ u. t < u) (times_in w)
transaction_after t [] n r = tt
transaction_after t (x ∷ w) n r = (omega (arith, r.0, eqb-false x.time t n), tt)

deadline_after : (t : ℕ) (o : Option ℕ) → deadline_at t o ≡ false → DeadlineValid t o → All (λ u. t < u) (optional o)
deadline_after t none n d = tt
deadline_after t (some u) n d = (omega (arith, d.0, eqb-false u t n), tt)

-- nothing is due now
module _ (M : Model) (c : Configuration) (n : due_now M c ≡ false) where
  abbrev transaction : ℕ → Bool
  transaction k = transaction_due c.time (driver_in c.drivers k)

  abbrev deadline : ℕ → Bool
  deadline p = deadline_due c.time (process_in c.processes p)

  pub no_transaction_lem : (k : ℕ) → k < length M.drivers → transaction k ≡ false
  unfolding due_now
  no_transaction_lem k h = any_none transaction (length M.drivers) (or_left (any_below transaction (length M.drivers)) (any_below deadline (length M.processes)) n) k h

  pub no_deadline : (p : ℕ) → p < length M.processes → deadline p ≡ false
  unfolding due_now
  no_deadline p h = any_none deadline (length M.processes) (or_right (any_below transaction (length M.drivers)) (any_below deadline (length M.processes)) n) p h

module _ (M : Model) (c : Configuration) (r : Reachable M c) where
  pub driver_within : (k : ℕ) → k < length M.drivers → All (Within c.time) (times_in (driver_in c.drivers k).pending)
  driver_within k h = transaction_within c.time (driver_in c.drivers k).pending (r.each_driver k h).rising

  pub process_within : (p : ℕ) → p < length M.processes → All (Within c.time) (optional (process_in c.processes p).deadline)
  process_within p h = deadline_within c.time (process_in c.processes p).deadline (r.each_process p h).deadline

  pub each_within : All (Within c.time) (due_times M c)
  each_within = due_each M c (Within c.time) driver_within process_within

  module _ (t : ℕ) (e : earliest (due_times M c) ≡ some t) where
    pub due_within : Within c.time t
    due_within = earliest_is (Within c.time) (due_times M c) t e each_within

    -- a time step moves the time on
    pub due_after : due_now M c ≡ false → c.time < t
    unfolding transaction_due deadline_due
    due_after n =
        earliest_is (λ u. c.time < u) (due_times M c) t e
        (due_each M c (λ u. c.time < u)
        (λ k h. transaction_after c.time (driver_in c.drivers k).pending (no_transaction_lem M c n k h) (r.each_driver k h).rising)
        (λ p h. deadline_after c.time (process_in c.processes p).deadline (no_deadline M c n p h) (r.each_process p h).deadline))
