-- A list that a chain holds: its length and its elements. Assumes nothing.
use mathlib.Core.Path.{◌≡◌, sym, ◌∙◌}
use mathlib.Core.List.{List}
use mathlib.Core.Logic.{⊎_elim}
use Prim.Native.Nat.{ℕ, ◌≤◌, ◌<◌}
use native.Mathlib.Omega.{arith}
use lib.ListN.{length, get_or, length-take, get_or-eq_default}
use lib.Seq.{get_or-take}
use Rattle.base.proofs.Below.{split}
use Rattle.chains.specs.Rows.{IsChain}
use Rattle.chains.specs.declared.Chain.{Chain}

module _ (xs : List ℕ) (c : Chain) (h : IsChain xs c) where
  pub held_length : length xs ≡ c.len
  held_length = rw (← h.list, length-take) (omega (arith, h.few, h.long))

  pub held_at : (i : ℕ) → get_or c.at i 0 ≡ get_or xs i 0
  held_at i =
      ⊎_elim
      (λ (l : i < c.len). rw (← h.list, get_or-take c.len c.at i 0 l))
      (λ (l : c.len ≤ i). h.rest i l ∙ sym (get_or-eq_default xs 0 (omega (arith, held_length))))
      (split i c.len)
