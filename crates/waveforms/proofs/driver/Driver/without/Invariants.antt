-- `without`: one after the other. Assumes nothing.
use mathlib.Core.Path.{◌≡◌}
use Prim.Native.Nat.{ℕ}
use lib.ListN.{drop}
use Rattle.waveforms.specs.Pending.{pending_of}
use Rattle.waveforms.proofs.driver.Driver.without.Given as goal

abbrev pub invariant-loop : goal.invariant-loop
invariant-loop l = (t : ℕ) → pending_of t l.self ≡ drop l.counter (pending_of t l.initial.self)
