-- What holds of each element of a list. Assumes nothing.
use mathlib.Core.Path.{◌≡◌}
use mathlib.Core.Logic.{⊎_elim}
use mathlib.Core.List.{List, [], ◌∷◌, ◌++◌}
use Prim.Native.Nat.{ℕ, zero, suc, ◌<◌}
use native.Mathlib.Nat.{not-suc-le-zero, eq-or-lt_of_le, le_of_suc-le-suc}
use native.Mathlib.Omega.{arith}
use lib.ListN.{length, get_or}
use Rattle.base.specs.Below.{join_below, All}

module _ {A : Type 0} (P : A → Type 0) where
  pub all_left : (xs ys : List A) → All P (xs ++ ys) → All P xs
  all_left [] ys h = tt
  all_left (x ∷ xs) ys h = (h.0, all_left xs ys h.1)

  pub all_right : (xs ys : List A) → All P (xs ++ ys) → All P ys
  all_right [] ys h = h
  all_right (x ∷ xs) ys h = all_right xs ys h.1

  pub all_append : (xs ys : List A) → All P xs → All P ys → All P (xs ++ ys)
  all_append [] ys h k = k
  all_append (x ∷ xs) ys h k = (h.0, all_append xs ys h.1 k)

  pub all_weaker : (Q : A → Type 0) → ((x : A) → P x → Q x) → (xs : List A) → All P xs → All Q xs
  all_weaker Q g [] h = tt
  all_weaker Q g (x ∷ xs) h = (g x h.0, all_weaker Q g xs h.1)

  -- it holds of each element of each part
  pub all_part : (f : ℕ → List A) (n i : ℕ) → i < n → All P (join_below f n) → All P (f i)
  unfolding join_below
  all_part f zero i l h = absurd (not-suc-le-zero l)
  all_part f (suc n) i l h =
      ⊎_elim (λ (e : i ≡ n). rw e (all_right (join_below f n) (f n) h)) (λ (l : i < n). all_part f n i l (all_left (join_below f n) (f n) h)) (eq-or-lt_of_le (le_of_suc-le-suc l))

  pub all_join : (f : ℕ → List A) (n : ℕ) → ((i : ℕ) → i < n → All P (f i)) → All P (join_below f n)
  unfolding join_below
  all_join f zero h = tt
  all_join f (suc n) h = all_append (join_below f n) (f n) (all_join f n (λ i l. h i (omega arith))) (h n (omega arith))

  pub all_at : (d : A) (xs : List A) → All P xs → (i : ℕ) → i < length xs → P (get_or xs i d)
  all_at d [] h i l = absurd (not-suc-le-zero l)
  all_at d (x ∷ xs) h zero l = h.0
  all_at d (x ∷ xs) h (suc i) l = all_at d xs h.1 i (le_of_suc-le-suc l)
