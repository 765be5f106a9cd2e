-- What holds of each element of a list after a change, and the length of a mapped list. Assumes nothing.
use mathlib.Core.Path.{◌≡◌, sym, ◌∙◌}
use mathlib.Core.List.{List, map}
use Prim.Native.Nat.{ℕ, ◌<◌}
use native.Mathlib.Decide.{ℕ_discrete}
use native.Mathlib.Omega.{arith}
use lib.ListN.{length, get_or, set, length-map}
use lib.Seq.{get_or-set_same, get_or-set_other}

-- a list is as long as what it is mapped to
pub length_mapped : {A B : Type 0} (f : A → B) (l : List A) (n : ℕ) → length (map f l) ≡ n → length l ≡ n
length_mapped f l n e = sym (length-map l f) ∙ e

-- what holds of each element, and of a new one at its place, holds of each after the change
pub set_each : {A : Type 0} (P : ℕ → A → Type 0) (l : List A) (n i : ℕ) (x d : A) → length l ≡ n → (i < n → P i x) → ((j : ℕ) → j < n → P j (get_or l j d)) → (j : ℕ) → j < n → P j (get_or (set l i x) j d)
set_each P l n i x d e h k j m =
    elim (ℕ_discrete j i) [
      | yes q ↦ let g : i < length l = omega arith in rw (q, get_or-set_same l i x d g) (h (omega arith))
      | no q ↦ rw (get_or-set_other l i j x d q) (k j m)
    ]
