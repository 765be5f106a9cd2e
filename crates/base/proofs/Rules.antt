-- The laws of numbered rules in checking order. Assumes nothing.
use mathlib.Core.Path.{◌≡◌, refl}
use mathlib.Core.Bool.{Bool, true, false, ◌&&◌}
use mathlib.Core.List.{List, [], ◌∷◌, ◌++◌}
use Prim.Native.Nat.{ℕ, zero, suc, ◌≤◌}
use native.Mathlib.Omega.{arith}
use borrow.Author.Tests.{ltb-true, leb-true}
use lib.Dec.{leb, ltb}
use lib.ListN.{get_or}
use Rattle.base.specs.Cases.{◌∣◌, ◌⇒◌}
use Rattle.base.specs.Rules.{Rule, ◌needs◌, first_failing}
use Rattle.base.proofs.Below.{and_left, and_right}
use Rattle.base.proofs.Cases.{by_test}

-- each rule has a number above 0, and at most b
abbrev pub numbered : ℕ → List Rule → Bool
numbered b [] = true
numbered b (r ∷ rs) = (ltb 0 r.number && leb r.number b) && numbered b rs

-- rule i of a list, and one that holds past its end
abbrev pub rule_in : List Rule → ℕ → Rule
rule_in rs i = get_or rs i (1 needs true)

-- no rule is left
pub none_left : 0 ≡ first_failing []
unfolding first_failing
none_left = refl

-- a rule that was found to hold, r being what its check returned, and one that was found to fail
module _ (n : ℕ) (t : Bool) (rest : List Rule) {r : Bool} where
  pub passes : r ≡ t → r ≡ true → first_failing ((n needs t) ∷ rest) ≡ first_failing rest
  unfolding first_failing
  passes e h = rw (← e, h)

  pub fails : r ≡ t → r ≡ false → n ≡ first_failing ((n needs t) ∷ rest)
  unfolding first_failing
  fails e h = rw (← e, h)

module _ (b : ℕ) where
  first_number : (r : Rule) (rs : List Rule) → numbered b (r ∷ rs) ≡ true → (r.number ≡ 0 → ⊥)
  first_number r rs h e = omega (arith, ltb-true 0 r.number (and_left (ltb 0 r.number) _ (and_left (ltb 0 r.number && leb r.number b) _ h)))

  others : (r : Rule) (rs : List Rule) → numbered b (r ∷ rs) ≡ true → numbered b rs ≡ true
  others r rs h = and_right (ltb 0 r.number && leb r.number b) _ h

  -- where no rule fails, each holds
  pub none_fails : (rs : List Rule) → numbered b rs ≡ true → first_failing rs ≡ 0 → (i : ℕ) → (rule_in rs i).holds ≡ true
  unfolding first_failing
  none_fails [] h e i = refl
  none_fails (r ∷ rs) h e zero =
      (elim r.holds as (λ x. (x ⇒ first_failing rs ∣ r.number) ≡ 0 → x ≡ true) [
        | true ↦ λ f. refl
        | false ↦ λ f. absurd (first_number r rs h f)
      ]) e
  none_fails (r ∷ rs) h e (suc i) =
      none_fails rs (others r rs h)
      ((elim r.holds as (λ x. (x ⇒ first_failing rs ∣ r.number) ≡ 0 → first_failing rs ≡ 0) [
        | true ↦ λ f. f
        | false ↦ λ f. absurd (first_number r rs h f)
      ]) e)
      i

  -- rules joined: where none of the first fails, the later ones decide; where one of the first fails, it decides
  pub later_decide : (us vs : List Rule) → numbered b us ≡ true → first_failing us ≡ 0 → first_failing (us ++ vs) ≡ first_failing vs
  unfolding first_failing
  later_decide [] vs h e = refl
  later_decide (r ∷ us) vs h e =
      (elim r.holds as (λ x. (x ⇒ first_failing us ∣ r.number) ≡ 0 → (x ⇒ first_failing (us ++ vs) ∣ r.number) ≡ first_failing vs) [
        | true ↦ λ f. later_decide us vs (others r us h) f
        | false ↦ λ f. absurd (first_number r us h f)
      ]) e

  -- the number is one of the rules'
  pub first_most : (rs : List Rule) → numbered b rs ≡ true → first_failing rs ≤ b
  unfolding first_failing
  first_most [] h = omega arith
  first_most (r ∷ rs) h =
      by_test (λ n. n ≤ b) r.holds (first_failing rs) r.number (λ e. first_most rs (others r rs h))
      (λ e. leb-true r.number b (and_right (ltb 0 r.number) _ (and_left (ltb 0 r.number && leb r.number b) _ h)))

pub first_decides : (us vs : List Rule) → (first_failing us ≡ 0 → ⊥) → first_failing (us ++ vs) ≡ first_failing us
unfolding first_failing
first_decides [] vs h = absurd (h refl)
first_decides (r ∷ us) vs h =
    (elim r.holds as (λ x. ((x ⇒ first_failing us ∣ r.number) ≡ 0 → ⊥) → (x ⇒ first_failing (us ++ vs) ∣ r.number) ≡ (x ⇒ first_failing us ∣ r.number)) [
      | true ↦ λ f. first_decides us vs f
      | false ↦ λ f. refl
    ]) h
