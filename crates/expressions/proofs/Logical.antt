-- The operators of logic and boolean values, by the node's type: the cases that the program goes through. Assumes nothing.
use mathlib.Core.Path.{◌≡◌, refl}
use mathlib.Core.Bool.{Bool, true, false, ◌&&◌, false≢true}
use Prim.Native.Nat.{ℕ}
use lib.Dec.{eqb}
use Rattle.std.specs.Prelude.{Ok, Err}
use Rattle.base.specs.Cases.{◌∣◌, ◌⇒◌}
use Rattle.base.proofs.Cases.{either}
use Rattle.trees.specs.Trees.{boolean}
use Rattle.rules.specs.Values.{Value}
use Rattle.rules.specs.Evaluation.{one, two, unless_first, decided_by}

-- `and`, `or`: k decides, and f is the operator of logic values
module _ (k : ℕ) (f : ℕ → ℕ → ℕ) (ty : ℕ) (p q : Value) where
  abbrev pub unless_by : Value
  unless_by = eqb ty boolean ⇒ unless_first k p q ∣ two p q (λ x y. Ok (f x y))

  -- where the first operand decides, it is the value
  pub decides : decided_by ty p k ≡ true → p ≡ unless_by
  decides = by_first p
    where
      by_tests : (x : ℕ) (v : Value) (b d : Bool) → (b && d) ≡ true → Ok x ≡ (b ⇒ (d ⇒ Ok x ∣ q) ∣ v)
      by_tests x v true true h = refl
      by_tests x v true false h = absurd (false≢true h)
      by_tests x v false d h = absurd (false≢true h)

      by_first : (p : Value) → decided_by ty p k ≡ true → p ≡ (eqb ty boolean ⇒ unless_first k p q ∣ two p q (λ x y. Ok (f x y)))
      by_first (Err e) h = either (eqb ty boolean) (Err e)
      by_first (Ok x) h = by_tests x (one q (λ y. Ok (f x y))) (eqb ty boolean) (eqb x k) h
