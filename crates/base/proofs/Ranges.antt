-- What a chain over the numbers below n answers (`(0..n).all`, `any`, `position`, `map` with `sum`), by the definitions over them. Each takes the
-- call's clause and what one call of the closure gives.
use Rattle.std.proofs.Common.{◌≡◌, ℕ, zero, suc, ◌+◌, ◌-◌, ◌<◌, Bool, true, false, List, [], ◌∷◌, ◌++◌, ◌&&◌, ◌||◌, ◌≤◌, Option, Some, None, refl, sym, ap, ◌∙◌, length, get_or, arith}
use Rattle.std.proofs.lemmas.List.Folds.{list_all-append, list_any-append}
use Rattle.std.proofs.Math.Bool.{and_assoc}
use Rattle.std.proofs.lemmas.Iterator.{YieldsList, YieldsList-from_range, first_from_Range}
use Rattle.std.proofs.lemmas.Iterator.Search.{all_from_yields_List, any_from_yields_List}
use Rattle.std.proofs.iter.Yields.{nat_range_steps}
use Rattle.std.specs.Fn.{Called, CalledAt}
use Rattle.std.specs.Iterator.{ChecksAll, ChecksAny, FindsItem}
use Rattle.std.specs.Option.{MatchOption, unwrap_or}
use Rattle.std.specs.List.{list_all, list_any, range_with_len}
use Rattle.std.specs.declared.ops.Range.{Range}
use Prim.Native.Nat.{zero-le}
use denote.Param.Members.{Mut}
use denote.Ref.{Bor}
use Rattle.base.specs.Below.{all_below, any_below}
use Rattle.base.specs.Course.{first_with}
use Rattle.base.proofs.Course.{first_found, first_none}

-- a range, and one number more
pub range_more : (a n : ℕ) → range_with_len a (suc n) ≡ range_with_len a n ++ (a + n) ∷ []
range_more a zero = grind arith
range_more a (suc n) = let s : a + 1 + n ≡ a + suc n = omega arith in ap (λ xs. a ∷ xs) (range_more (a + 1) n ∙ ap (λ k. range_with_len (a + 1) n ++ k ∷ []) s)

and_last : (b : Bool) → (b && true) ≡ b
and_last true = refl
and_last false = refl

or_last : (b : Bool) → (b || false) ≡ b
or_last true = refl
or_last false = refl

pub all_below-range : (test : ℕ → Bool) (n : ℕ) → list_all test (range_with_len 0 n) ≡ all_below test n
unfolding all_below
all_below-range test zero = refl
all_below-range test (suc n) = let z : 0 + n ≡ n = omega arith in ap (list_all test) (range_more 0 n) ∙ list_all-append test (range_with_len 0 n) ((0 + n) ∷ []) ∙ ap (λ b. list_all test (range_with_len 0 n) && b) (and_last (test (0 + n)) ∙ ap test z) ∙ ap (λ b. b && test n) (all_below-range test n)

pub any_below-range : (test : ℕ → Bool) (n : ℕ) → list_any test (range_with_len 0 n) ≡ any_below test n
unfolding any_below
any_below-range test zero = refl
any_below-range test (suc n) = let z : 0 + n ≡ n = omega arith in ap (list_any test) (range_more 0 n) ∙ list_any-append test (range_with_len 0 n) ((0 + n) ∷ []) ∙ ap (λ b. list_any test (range_with_len 0 n) || b) (or_last (test (0 + n)) ∙ ap test z) ∙ ap (λ b. b || test n) (any_below-range test n)

-- the numbers below n, as the chain's calls of `next` give them
below : (n : ℕ) → YieldsList nat_range_steps (λ x. x) (record { start = 0; end = n }) (range_with_len 0 n)
below n = let z : n - 0 ≡ n = omega arith in YieldsList-from_range 0 n n refl z

module _ {F : Type 0} {g : Mut F (ℕ × Unit {0}) Bool} {n m : ℕ} {u : Range ℕ} {f : F} {r : Bool} (test : ℕ → Bool) where
  -- `(0..n).all(..)`
  pub all_from_range :
      ChecksAll nat_range_steps g (record { start = 0; end = n }) f r u →
      n ≡ m →
      ((x : ℕ) (b : Bool) (q : F) → Called g f (x, tt) b q → (q ≡ f) × (b ≡ test x)) →
      r ≡ all_below test m
  all_from_range ran e k = all_from_yields_List test u f r ran (below n) k ∙ all_below-range test n ∙ ap (all_below test) e

  -- `(0..n).any(..)`
  pub any_from_range :
      ChecksAny nat_range_steps g (record { start = 0; end = n }) f r u →
      n ≡ m →
      ((x : ℕ) (b : Bool) (q : F) → Called g f (x, tt) b q → (q ≡ f) × (b ≡ test x)) →
      r ≡ any_below test m
  any_from_range ran e k = any_from_yields_List test u f r ran (below n) k ∙ any_below-range test n ∙ ap (any_below test) e

module _ (test : ℕ → Bool) where
  first_by : (n : ℕ) (r : Option ℕ) → MatchOption r ((k : ℕ) → 0 ≤ k → k < n → test k ≡ false) (λ i. (0 ≤ i) × (i < n) × (test i ≡ true) × ((k : ℕ) → 0 ≤ k → k < i → test k ≡ false)) → unwrap_or r n ≡ first_with test n
  first_by n None h = sym (first_none test n (λ k l. h k zero-le l))
  first_by n (Some i) h = sym (first_found test n i h.1 (λ k l. h.3 k zero-le l) h.2)

  -- `(0..n).find(..).unwrap_or(n)`
  pub first_from_range :
      {F : Type 0} {g : Mut F (Bor ℕ × Unit {0}) Bool} {n m : ℕ} (u : Range ℕ) (f : F) (r : Option ℕ) →
      FindsItem nat_range_steps g (record { start = 0; end = n }) f r u →
      n ≡ m →
      ((x : ℕ) (b : Bool) (q : F) → CalledAt g f x b q → (q ≡ f) × (b ≡ test x)) →
      unwrap_or r n ≡ first_with test m
  first_from_range {n = n} u f r ran e k =
      first_by n r (first_from_Range (record { start = 0; end = n }) u f r (λ x. test x ≡ true) (λ x. test x ≡ false) ran (λ x q h. sym ((k x true q h).1)) (λ x q h. ((k x false q h).0, sym ((k x false q h).1))))
      ∙ ap (first_with test) e

all_below-first : (f : ℕ → Bool) (n : ℕ) → all_below f (suc n) ≡ (f 0 && all_below (λ i. f (suc i)) n)
unfolding all_below
all_below-first f zero = sym (and_last (f 0))
all_below-first f (suc n) = ap (λ b. b && f (suc n)) (all_below-first f n) ∙ and_assoc (f 0) _ _

-- a test of each element of a list, by their numbers
pub all_below-list : (test : ℕ → Bool) (xs : List ℕ) → list_all test xs ≡ all_below (λ i. test (get_or xs i 0)) (length xs)
unfolding all_below
all_below-list test [] = refl
all_below-list test (x ∷ xs) = ap (λ b. test x && b) (all_below-list test xs) ∙ sym (all_below-first (λ i. test (get_or (x ∷ xs) i 0)) (length xs))
