-- Where one list stands in another. Assumes nothing.
use mathlib.Core.Path.{◌≡◌, ◌∙◌}
use mathlib.Core.List.{List, ◌∷◌, ◌++◌}
use Prim.Native.Nat.{ℕ, suc, ◌+◌, ◌≤◌, ◌<◌}
use native.Mathlib.Nat.{zero-add, add-zero, add-suc, suc-add, add_assoc}
use native.Mathlib.Numerals.{add-one}
use native.Mathlib.Omega.{arith}
use lib.ListN.{length, get_or, length-append, get_or-append}
use lib.Seq.{get_or-append-add}

module _ {A : Type 0} (rs : List A) (d : A) where
  -- the entries of l stand among rs, from number i on
  pub record Stands (i : ℕ) (l : List A) : Type 0 where
    pub fits : i + length l ≤ length rs
    pub each : (k : ℕ) → k < length l → get_or rs (i + k) d ≡ get_or l k d

  pub stands_whole : {l : List A} → rs ≡ l → Stands 0 l
  stands_whole e = record { fits = rw e (omega arith); each = λ k h. rw (zero-add, e) }

  pub stands_head : {i : ℕ} {r : A} {l : List A} → Stands i (r ∷ l) → get_or rs i d ≡ r
  stands_head s = rw add-zero at (s.each 0 (omega arith))

  pub stands_tail : {i : ℕ} {r : A} {l : List A} → Stands i (r ∷ l) → Stands (i + 1) l
  stands_tail {i} s = record { fits = let f = s.fits in omega arith; each = λ k h. rw (add-one, suc-add, ← add-suc) (s.each (suc k) (omega arith)) }

  pub stands_left : {i : ℕ} (l m : List A) → Stands i (l ++ m) → Stands i l
  stands_left l m s =
      record {
        fits = let f = rw length-append at s.fits in omega arith;
        each = λ k h. s.each k (rw length-append (omega arith)) ∙ get_or-append l m d k h;
      }

  -- what stands behind l, n being where l ends
  pub stands_right : {i : ℕ} (n : ℕ) (l m : List A) → i + length l ≡ n → Stands i (l ++ m) → Stands n m
  stands_right {i} n l m e s =
      record {
        fits = let f = rw length-append at s.fits in omega arith;
        each = λ k h. rw (← e, add_assoc) (s.each (length l + k) (rw length-append (omega arith)) ∙ get_or-append-add l m k d);
      }
