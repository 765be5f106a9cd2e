-- Bytes stored one after another at the front of a buffer, as far as it reaches.
-- Assumes nothing.
use mathlib.Core.Path.{◌≡◌, sym, ◌∙◌}
use mathlib.Core.List.{List, [], ◌∷◌, ◌++◌}
use Prim.Native.Nat.{ℕ, ◌+◌, ◌≤◌, ◌<◌}
use native.Mathlib.Numerals.{add-one}
use native.Mathlib.Omega.{arith}
use lib.ListN.{length, get_or, take, set}
use lib.Seq.{sets, take-suc, length-take-le, set_out}
use Rattle.writing.proofs.WriteLaws.{sets_append}

module _ (bytes old : List ℕ) {out : List ℕ} (i : ℕ) (l : i < length bytes) (h : out ≡ sets old 0 (take i bytes)) where
  pub stored_next : set out i (get_or bytes i 0) ≡ sets old 0 (take (i + 1) bytes)
  stored_next =
      let e : take (i + 1) bytes ≡ take i bytes ++ (get_or bytes i 0 ∷ []) = rw add-one (take-suc bytes i 0 l) in
      let k : 0 + length (take i bytes) ≡ i = omega (arith, length-take-le i bytes (omega arith)) in
      rw (e, sets_append, k, h)

  pub stored_past : length out ≤ i → out ≡ sets old 0 (take (i + 1) bytes)
  stored_past m = sym (set_out out i (get_or bytes i 0) m) ∙ stored_next
