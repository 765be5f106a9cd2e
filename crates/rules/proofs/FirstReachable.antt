-- The first configuration is reachable. Assumes nothing.
use mathlib.Core.Path.{◌≡◌, refl}
use mathlib.Core.List.{[]}
use mathlib.Core.Option.{none}
use Prim.Native.Nat.{ℕ, ◌<◌}
use native.Mathlib.Omega.{arith}
use lib.Dec.{lit≤}
use lib.ListN.{length, get_or, replicate, length-map, length-replicate, get_or-replicate}
use Rattle.base.proofs.Below.{map_at, list_length, list_at}
use Rattle.blocks.specs.Records.{Model, signal_at, variable_at, driver_at, process_at}
use Rattle.model.specs.Facts.{Facts}
use Rattle.rules.specs.declared.driven.Driven.TheVariants.{To}
use Rattle.rules.specs.Configuration.{driver_in, process_in, past_of, first_drivers, first_signal, first, ready}
use Rattle.rules.specs.Invariant.{ValueOf, DriverValid, ProcessValid, Reachable}
use Rattle.rules.proofs.Driving.{resolved_typed}

module _ (M : Model) (fs : Facts M) where
  -- a driver that has just started
  pub driver_at_lem : (k : ℕ) → k < length M.drivers → driver_in (first_drivers M) k ≡ record { current = To (signal_at M (driver_at M k).signal).start; pending = [] }
  unfolding first_drivers
  driver_at_lem k h = map_at _ M.drivers k _ _ h

  driver_valid : (k : ℕ) → k < length M.drivers → DriverValid (signal_at M (driver_at M k).signal) 0 (driver_in (first_drivers M) k)
  driver_valid k h =
      rw (driver_at_lem k h)
      (record { current = (fs.signal (driver_at M k).signal (fs.driver k h).signal).start; few = lit≤ tt; rising = tt; values = tt })

  pub first_typed : (s : ℕ) → s < length M.signals → ValueOf (signal_at M s).ty (first_signal M s)
  unfolding first_signal
  first_typed s h =
      resolved_typed M fs (first_drivers M) s (signal_at M s).start h (λ k l e. rw e at (driver_valid k l).current) (fs.signal s h).start

  signal_at_lem : (s : ℕ) → s < length M.signals → get_or (first M).signals s [] ≡ replicate 32 (first_signal M s)
  unfolding first
  signal_at_lem s h = list_at (λ s. replicate 32 (first_signal M s)) [] (length M.signals) s h

  past_typed : (s k : ℕ) → s < length M.signals → k < 32 → ValueOf (signal_at M s).ty (past_of (first M).signals s k)
  past_typed s k h l = rw (signal_at_lem s h, get_or-replicate 32 k (first_signal M s) 0 l) (first_typed s h)

  pub process_at_lem : (p : ℕ) → p < length M.processes → process_in (first M).processes p ≡ record { place = (process_at M p).first; standing = ready; deadline = none; fault = 0; node = 0 }
  unfolding first
  process_at_lem p h = map_at _ M.processes p _ _ h

  process_valid : (p : ℕ) → p < length M.processes → ProcessValid M p 0 (process_in (first M).processes p)
  process_valid p h =
      let s = (fs.process p h).first in
      rw (process_at_lem p h)
      (record {
        from = s.from;
        within = s.below;
        standing = lit≤ tt;
        failed = λ e. absurd (omega arith);
        running = λ e. (refl, refl);
        at_wait = λ e. absurd (omega arith);
        no_deadline = λ e. refl;
        deadline = tt;
      })

  pub variable_at_lem : (a : ℕ) → a < length M.variables → get_or (first M).variables a 0 ≡ (variable_at M a).start
  unfolding first
  variable_at_lem a h = map_at _ M.variables a _ _ h

  variable_typed : (a : ℕ) → a < length M.variables → ValueOf (variable_at M a).ty (get_or (first M).variables a 0)
  variable_typed a h = rw (variable_at_lem a h) (fs.variable a h).start

  pub first_reachable : Reachable M (first M)
  unfolding first first_drivers
  first_reachable =
      record {
        time = lit≤ tt;
        deltas = lit≤ tt;
        signals = list_length _ (length M.signals);
        histories = λ s h. rw (signal_at_lem s h) (length-replicate 32 (first_signal M s));
        signal_values = past_typed;
        earlier = list_length (first_signal M) (length M.signals);
        earlier_values = λ s h. rw (list_at (first_signal M) 0 (length M.signals) s h) (first_typed s h);
        drivers = length-map M.drivers _;
        each_driver = driver_valid;
        processes = length-map M.processes _;
        each_process = process_valid;
        variables = length-map M.variables _;
        variable_values = variable_typed;
      }
