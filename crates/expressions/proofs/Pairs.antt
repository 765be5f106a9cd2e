-- An operator of two operands, "a before b": of both values, or the first one's fault, or the second one's. Assumes nothing.
use mathlib.Core.Path.{◌≡◌, refl}
use mathlib.Core.Bool.{Bool, true, false}
use Prim.Native.Nat.{ℕ}
use Rattle.std.specs.Prelude.{Ok, Err}
use Rattle.base.specs.Cases.{◌∣◌, ◌⇒◌}
use Rattle.rules.specs.Values.{Value}
use Rattle.rules.specs.declared.value.Failure.{Failure}
use Rattle.rules.specs.Evaluation.{two}

module _ (f : ℕ → ℕ → Value) where
  pub of_values : (x y : ℕ) → two (Ok x) (Ok y) f ≡ f x y
  of_values x y = refl

  pub of_first_fault : (e : Failure) (q : Value) → two (Err e) q f ≡ Err e
  of_first_fault e q = refl

  pub of_second_fault : (x : ℕ) (e : Failure) → two (Ok x) (Err e) f ≡ Err e
  of_second_fault x e = refl

-- an operator by a test
pub two_by_test : (b : Bool) (p q : Value) (f g : ℕ → ℕ → Value) → two p q (λ x y. b ⇒ f x y ∣ g x y) ≡ (b ⇒ two p q f ∣ two p q g)
two_by_test true p q f g = refl
two_by_test false p q f g = refl
