-- The pigeonhole law: of n + 1 numbers below n, two are equal. Assumes nothing.
use mathlib.Core.Path.{◌≡◌, sym, ◌∙◌}
use mathlib.Core.Bool.{Bool}
use mathlib.Core.Logic.{⊎_elim}
use Prim.Native.Nat.{ℕ, zero, suc, ◌≤◌, ◌<◌}
use native.Mathlib.Nat.{not-suc-le-zero}
use native.Mathlib.Omega.{arith}
use lib.Dec.{eqb}
use borrow.Author.Tests.{eqb-true, eqb-false}
use Rattle.base.specs.Cases.{◌∣◌, ◌⇒◌}
use Rattle.base.specs.Course.{first_with}
use Rattle.base.proofs.Below.{split}
use Rattle.base.proofs.Cases.{either_way, by_test}
use Rattle.base.proofs.Course.{first_at, first_before}

-- a value of f stands twice, at places up to n
pub record Twice (f : ℕ → ℕ) (n : ℕ) : Type 0 where
  pub i : ℕ
  pub j : ℕ
  pub order : i < j
  pub within : j ≤ n
  pub same : f i ≡ f j

-- v in the place of n
abbrev instead : ℕ → ℕ → ℕ → ℕ
instead n v x = eqb x n ⇒ v ∣ x

-- below n, where x and v are at most n and differ
instead_below : (n v x : ℕ) → v < suc n → x < suc n → (x ≡ v → ⊥) → instead n v x < n
instead_below n v x h l other =
    by_test (λ y. y < n) (eqb x n) v x
    (λ e. let q : x ≡ n = eqb-true x n e in let d : v ≡ n → ⊥ = λ r. other (q ∙ sym r) in omega arith)
    (λ e. let q : x ≡ n → ⊥ = eqb-false x n e in omega arith)

-- one to one on the numbers other than v
instead_same : (n v x y : ℕ) → (x ≡ v → ⊥) → (y ≡ v → ⊥) → instead n v x ≡ instead n v y → x ≡ y
instead_same n v x y p q =
    either_way (eqb x n)
    (λ a.
    either_way (eqb y n)
    (λ b. λ e. eqb-true x n a ∙ sym (eqb-true y n b))
    (λ b. rw (a, b) (λ e. absurd (q (sym e)))))
    (λ a.
    either_way (eqb y n)
    (λ b. rw (a, b) (λ e. absurd (p e)))
    (λ b. rw (a, b) (λ e. e)))

pub pigeonhole : (n : ℕ) (f : ℕ → ℕ) → ((i : ℕ) → i ≤ n → f i < n) → Twice f n
pigeonhole zero f h = absurd (not-suc-le-zero (h 0 (omega arith)))
pigeonhole (suc n) f h =
    ⊎_elim
    (λ (l : first_with last (suc n) < suc n).
    record {
      i = first_with last (suc n);
      j = suc n;
      order = l;
      within = omega arith;
      same = eqb-true _ _ (first_at last (suc n) l);
    })
    (λ (g : suc n ≤ first_with last (suc n)).
    let other : (i : ℕ) → i ≤ n → f i ≡ f (suc n) → ⊥ = λ i l. eqb-false _ _ (first_before last (suc n) i (omega arith)) in
    let t : Twice (λ i. instead n (f (suc n)) (f i)) n =
    pigeonhole n (λ i. instead n (f (suc n)) (f i))
    (λ i l. instead_below n (f (suc n)) (f i) (h (suc n) (omega arith)) (h i (omega arith)) (other i l)) in
    record {
      i = t.i;
      j = t.j;
      order = t.order;
      within = omega (arith, t.within);
      same = instead_same n (f (suc n)) (f t.i) (f t.j) (other t.i (omega (arith, t.order, t.within))) (other t.j t.within) t.same;
    })
    (split (first_with last (suc n)) (suc n))
  where
    last : ℕ → Bool
    last i = eqb (f i) (f (suc n))
