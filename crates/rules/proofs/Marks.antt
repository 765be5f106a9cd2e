-- The law of marks: of the transactions before a new one, those marked are the run of its value that is last. Assumes nothing.
use mathlib.Core.Path.{◌≡◌, refl, ◌∙◌}
use mathlib.Core.Bool.{Bool, true, false, false≢true}
use mathlib.Core.List.{List, [], ◌∷◌, ◌++◌}
use Prim.Native.Nat.{ℕ, zero, suc, ◌≤◌, ◌<◌}
use native.Mathlib.Omega.{arith}
use lib.ListN.{drop}
use borrow.Author.Tests.{eqb-true}
use Rattle.base.specs.Below.{All, list_below}
use Rattle.base.proofs.Below.{list_first, list_all}
use Rattle.rules.specs.declared.driven.Driven.{Driven}
use Rattle.rules.specs.declared.driven.Driven.TheVariants.{To, Null}
use Rattle.rules.specs.Configuration.{Transaction}
use Rattle.rules.specs.Statements.{kept, equal_value, marked}

-- equal values are equal to the same
equal_alike : (a b c : Driven) → equal_value b c ≡ true → equal_value a b ≡ equal_value a c
unfolding equal_value
equal_alike a (To y) (To z) h = rw (eqb-true y z h)
equal_alike a (To y) Null h = absurd (false≢true h)
equal_alike a Null c h = absurd (false≢true h)

module _ (new : Transaction) where
  abbrev alike : Transaction → Bool
  alike x = equal_value x.value new.value

  abbrev Alike : Transaction → Type 0
  Alike x = alike x ≡ true

  -- w ends in a run of the new one's value that begins at n: the one before it has another
  abbrev pub RunFrom : ℕ → List Transaction → Type 0
  RunFrom zero w = All Alike w
  RunFrom (suc n) [] = ⊥
  RunFrom (suc zero) (x ∷ w) = (alike x ≡ false) × All Alike w
  RunFrom (suc (suc n)) (x ∷ w) = RunFrom (suc n) w

  -- a transaction right before the run
  mark_at_run : (x : Transaction) (w : List Transaction) → All Alike w → marked x (w ++ (new ∷ [])) ≡ alike x
  unfolding marked
  mark_at_run x [] h = refl
  mark_at_run x (y ∷ w) h = rw (mark_at_run y w h.1, h.0) (equal_alike x.value y.value new.value h.0)

  run_stays : (w : List Transaction) → All Alike w → kept marked (w ++ (new ∷ [])) ≡ w ++ (new ∷ [])
  unfolding kept marked
  run_stays [] h = refl
  run_stays (x ∷ w) h = rw (mark_at_run x w h.1, h.0, run_stays w h.1)

  unmarked : (n : ℕ) (x : Transaction) (w : List Transaction) → RunFrom (suc n) (x ∷ w) → marked x (w ++ (new ∷ [])) ≡ false
  unfolding marked
  unmarked zero x w h = mark_at_run x w h.1 ∙ h.0
  unmarked (suc n) x [] h = absurd h
  unmarked (suc n) x (y ∷ w) h = rw (unmarked n y w h)

  run_after : (n : ℕ) (x : Transaction) (w : List Transaction) → RunFrom (suc n) (x ∷ w) → RunFrom n w
  run_after zero x w h = h.1
  run_after (suc n) x w h = h

  pub run_left : (n : ℕ) (w : List Transaction) → RunFrom n w → kept marked (w ++ (new ∷ [])) ≡ drop n w ++ (new ∷ [])
  unfolding kept
  run_left zero w h = run_stays w h
  run_left (suc n) [] h = absurd h
  run_left (suc n) (x ∷ w) h = rw (unmarked n x w h) (run_left n w (run_after n x w h))

  -- a run in a list that is told by places
  pub run_listed : (f : ℕ → Transaction) (c n : ℕ) → n ≤ c → ((k : ℕ) → n ≤ k → k < c → Alike (f k)) → ((k : ℕ) → suc k ≡ n → alike (f k) ≡ false) → RunFrom n (list_below f c)
  run_listed f c zero l h o = list_all Alike f c (λ k m. h k (omega arith) m)
  run_listed f zero (suc n) l h o = absurd (omega arith)
  run_listed f (suc c) (suc zero) l h o = rw (list_first f c) (o 0 refl, list_all Alike (λ j. f (suc j)) c (λ k m. h (suc k) (omega arith) (omega arith)))
  run_listed f (suc c) (suc (suc n)) l h o =
      rw (list_first f c) (run_listed (λ j. f (suc j)) c (suc n) (omega arith) (λ k m p. h (suc k) (omega arith) (omega arith)) (λ k e. o (suc k) (omega arith)))
