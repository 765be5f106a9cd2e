-- The refusal by the standings goes before any other. Assumes nothing.
use mathlib.Core.Path.{◌≡◌, ◌∙◌}
use Prim.Native.Nat.{ℕ}

-- where the standings do not refuse, the rest tells
pub past : {told rest refusal : ℕ} → rest ≡ refusal → told ≡ rest → told ≡ refusal
past e h = h ∙ e
