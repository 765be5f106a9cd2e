-- What `array::from_fn`, a fold over a slice and `find` over a range answer. Each takes the call's clause and what one call of the closure gives.
use Rattle.std.proofs.Common.{◌≡◌, ℕ, zero, suc, ◌+◌, ◌<◌, ◌≤◌, Bool, true, false, List, [], ◌∷◌, Option, Some, None, refl, sym, ap, subst, ◌∙◌, get_or, Bor, Iter, arith}
use Rattle.std.proofs.iter.Yields.{nat_range_steps}
use Rattle.std.proofs.lemmas.Fn.{fold_over, slice_gives, fronts}
use Rattle.std.proofs.lemmas.Iterator.{first_from_Range}
use Rattle.std.specs.Array.{IsFromFnResult, IsFromFnResultFrom}
use Rattle.std.specs.Bool.{⊤}
use Rattle.std.specs.Fn.{Called, CalledAt}
use Rattle.std.specs.Iterator.{AlwaysYields, FoldsItems, YieldsThen}
use Rattle.std.specs.List.{FoldsTo}
use Rattle.std.specs.Option.{MatchOption, unwrap_or}
use Rattle.std.specs.declared.ops.Range.{Range}
use denote.Param.Members.{Mut}
use mathlib.Core.List.{foldl, foldl-append}
use native.Mathlib.Nat.{not-suc-le-zero}
use Rattle.base.specs.Below.{list_below}
use Rattle.base.specs.Course.{first_with}
use Rattle.base.proofs.Below.{list_is}
use Rattle.base.proofs.Course.{first_found, first_none}

-- `array::from_fn`, where the closure computes f
module _ {F A : Type 0} {g : Mut F (ℕ × Unit {0}) A} {q : F} (xs : List A) (f : ℕ → A) (calls : (i : ℕ) (x : A) (q' : F) → Called g q (i, tt) x q' → (q' ≡ q) × (x ≡ f i)) where
  from_fn_at : (i n : ℕ) → IsFromFnResultFrom g q xs i n → (j k : ℕ) → j < n → i + j ≡ k → (d : A) → get_or xs k d ≡ f k
  from_fn_at i zero w j k h e d = absurd (not-suc-le-zero h)
  from_fn_at i (suc n) (q', y, a, b, w) zero k h e d =
      let z : i ≡ k = omega arith in
      subst (λ m. get_or xs m d ≡ f m) z (a.1 d ∙ (calls i y q' b).1)
  from_fn_at i (suc n) (q', y, a, b, w) (suc j) k h e d =
      let w' = subst (λ p. IsFromFnResultFrom g p xs (i + 1) n) (calls i y q' b).0 w in
      from_fn_at (i + 1) n w' j k (omega arith) (omega arith) d

  pub list_from_fn : {n : ℕ} → IsFromFnResult g q xs n → xs ≡ list_below f n
  list_from_fn {n} w = sym (list_is f xs (f 0) n w.long (λ j h. sym (from_fn_at 0 n w.each j j h (omega arith) (f 0))))

-- `s.iter().fold(..)`, where the closure computes h
pub fold_from_slice :
    {F A C : Type 0} {g : Mut F (C × (Bor A × Unit {0})) C} {s : Iter A} {q : F} {a r : C} {xs : List A} (h : C → A → C) →
    FoldsItems fronts g s q a r →
    s.rest.now ≡ xs →
    ((b : C) (x : Bor A) (c : C) (q' : F) → Called g q (b, (x, tt)) c q' → (q' ≡ q) × (c ≡ h b x.now)) →
    r ≡ foldl h a xs
fold_from_slice {g = g} {s = s} {q = q} {a = a} {r = r} {xs = xs} h ran e calls =
    fold_over fronts (λ y. y.now) g (λ ys b. b ≡ foldl h a ys) q
    (λ ys b x c q' l k. ((calls b x c q' k).1 ∙ ap (λ v. h v x.now) l ∙ sym (foldl-append h a ys (x.now ∷ [])), (calls b x c q' k).0))
    s xs a r (subst (AlwaysYields fronts (λ y. y.now) s) e (slice_gives s)) refl ran

-- what `find` over the numbers below n says of its calls
abbrev pub FindsRun : {F : Type 0} → Mut F (Bor ℕ × Unit {0}) Bool → Range ℕ → F → ℕ → Option ℕ → Type 0
FindsRun {F} g u f n r =
    (xs : List ℕ) × (j : F) × YieldsThen nat_range_steps (record { start = 0; end = n }) xs r u × FoldsTo (λ p x q. CalledAt g p x false q) f xs j × MatchOption r ⊤ (λ x. (h : F) × CalledAt g j x true h)

-- `(0..n).find(..)`: the first number that passes, or none
first_named : (n : ℕ) (test : ℕ → Bool) (r : Option ℕ) → MatchOption r ((k : ℕ) → 0 ≤ k → k < n → test k ≡ false) (λ i. (0 ≤ i) × (i < n) × (test i ≡ true) × ((k : ℕ) → 0 ≤ k → k < i → test k ≡ false)) → unwrap_or r n ≡ first_with test n
first_named n test None h = sym (first_none test n (λ k l. h k (omega arith) l))
first_named n test (Some i) h = sym (first_found test n i h.1 (λ k l. h.3 k (omega arith) l) h.2)

pub find_from_range :
    {F : Type 0} {g : Mut F (Bor ℕ × Unit {0}) Bool} (u : Range ℕ) {f : F} (n : ℕ) (test : ℕ → Bool) (r : Option ℕ) →
    FindsRun g u f n r →
    ((x : ℕ) (b : Bool) (q : F) → CalledAt g f x b q → (q ≡ f) × (b ≡ test x)) →
    unwrap_or r n ≡ first_with test n
find_from_range u {f} n test r ran calls =
    first_named n test r
    (first_from_Range (record { start = 0; end = n }) u f r (λ k. test k ≡ true) (λ k. test k ≡ false) ran
    (λ x q k. sym (calls x true q k).1) (λ x q k. ((calls x false q k).0, sym (calls x false q k).1)))
