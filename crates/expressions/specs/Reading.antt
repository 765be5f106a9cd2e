-- What the code of the cycle reads: a loaded model, and the arrays of variables and signals.
use Rattle.std.specs.Prelude.{List, ℕ, ◌+◌, ◌*◌, get_or}
use Rattle.blocks.specs.Records.{model_of}
use Rattle.model.specs.Facts.{Facts}
use Rattle.model.specs.Index.{Usable}
use Rattle.rules.specs.declared.moment.Moment.{Moment}
use Rattle.rules.specs.declared.moment.Moment.TheVariants.{Now, DeltaAgo, UnitsAgo}
use Rattle.rules.specs.Evaluation.{Environment}

-- what the cycle asks of a model's bytes and its index: they are usable, and what acceptance says of the model
pub record Runs (m index : List ℕ) : Type 0 where
  pub usable : Usable m index
  pub facts : Facts (model_of m)

-- where signal s at a moment stands in the array of signals: first, of each signal, the values of 0 to 31 units ago, then the earlier ones
abbrev pub signal_slot : ℕ → Moment → ℕ
signal_slot s Now = 32 * s
signal_slot s DeltaAgo = 1024 + s
signal_slot s (UnitsAgo k) = 32 * s + k

-- what expressions read from the struct's arrays
abbrev pub arrays : List ℕ → List ℕ → Environment
arrays variables signals = record { variable = λ a. get_or variables a 0; signal = λ s w. get_or signals (signal_slot s w) 0 }
