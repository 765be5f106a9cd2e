-- What entries of the struct's arrays stand for.
use Rattle.std.proofs.Math.Option.{Option, none, some}
use Rattle.std.specs.Prelude.{List, [], ℕ, ◌+◌, ◌*◌, eqb, get_or}
use Rattle.base.specs.Below.{join_below, list_below}
use Rattle.base.specs.Cases.{◌∣◌, ◌⇒◌}
use Rattle.blocks.specs.Records.{Model, driver_at}
use Rattle.rules.specs.declared.moment.Moment.TheVariants.{DeltaAgo}
use Rattle.rules.specs.Configuration.{values_of}
use Rattle.expressions.specs.Reading.{signal_slot}
use Rattle.waveforms.specs.Pending.{never, driven_of}

-- no deadline is the largest number
abbrev pub deadline_of : ℕ → Option ℕ
deadline_of t = eqb t never ⇒ none ∣ some t

-- signal s of 0 to 31 units ago: entries 32 * s to 32 * s + 31
unfoldable pub history_of : List ℕ → ℕ → List ℕ
history_of signals s = list_below (λ k. get_or signals (32 * s + k) 0) 32

-- signal s before the latest delta step
abbrev pub earlier_of : List ℕ → ℕ → ℕ
earlier_of signals s = get_or signals (signal_slot s DeltaAgo) 0

-- the current values of those of the first n drivers that drive signal s and are on
unfoldable pub driving_in : Model → List ℕ → ℕ → ℕ → List ℕ
driving_in M currents s n = join_below (λ k. eqb (driver_at M k).signal s ⇒ values_of (driven_of (get_or currents k 0)) ∣ []) n
