use mathlib.Core.Path.{◌≡◌}
use Prim.Native.Nat.{◌≤◌}
use lib.Dec.{eqb}
use Rattle.base.specs.Below.{sum_below}
use Rattle.base.specs.Cases.{◌∣◌, ◌⇒◌}
use Rattle.blocks.specs.Records.{driver_at}
use Rattle.blocks.specs.Lent.{model_in}
use Rattle.model.proofs.owners.drivers_of.Given as goal

abbrev pub invariant-loop-i : goal.invariant-loop-i
invariant-loop-i l = (l.n ≤ l.i) × (l.n ≡ sum_below (λ k. eqb (driver_at (model_in l.records) k).signal l.s ⇒ 1 ∣ 0) l.i)
