-- A usable model runs: what acceptance says of it is the model layer's law. Assumes nothing.
use mathlib.Core.Path.{◌≡◌}
use mathlib.Core.List.{List}
use Prim.Native.Nat.{ℕ}
use Rattle.blocks.specs.Records.{model_of}
use Rattle.model.specs.Index.{Usable}
use Rattle.model.proofs.Facts.{facts}
use Rattle.expressions.specs.Reading.{Runs}

pub runs : {m index : List ℕ} → Usable m index → Runs m index
runs {m} u = record { usable = u; facts = facts (model_of m) u.accepted }

-- and so it does as it is lent
pub runs_lent : {m index b i : List ℕ} → Usable m index → b ≡ m → i ≡ index → Runs b i
runs_lent u e f = rw (e, f) (runs u)
