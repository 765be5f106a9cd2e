-- Where a signal at a moment stands. Assumes nothing.
use Prim.Native.Nat.{ℕ, ◌<◌}
use native.Mathlib.Omega.{arith}
use Rattle.rules.specs.declared.moment.Moment.{Moment}
use Rattle.rules.specs.declared.moment.Moment.TheVariants.{Now, DeltaAgo, UnitsAgo}
use Rattle.rules.specs.Evaluation.{Held}
use Rattle.expressions.specs.Reading.{signal_slot}

pub slot_below : (s : ℕ) (w : Moment) → s < 32 → Held w → signal_slot s w < 1056
slot_below s Now h l = omega arith
slot_below s DeltaAgo h l = omega arith
slot_below s (UnitsAgo k) h l = omega arith
