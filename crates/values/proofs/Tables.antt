-- What one computed test over the codes 0 to 8 says of all numbers, since a table and a rule see a number's code alone.
-- Assumes nothing.
use mathlib.Core.Path.{◌≡◌, sym, ◌∙◌}
use mathlib.Core.Bool.{Bool, true}
use mathlib.Core.List.{List}
use Prim.Native.Nat.{ℕ, ◌+◌, ◌*◌, ◌<◌}
use native.Mathlib.Omega.{arith}
use lib.Dec.{eqb, ltb, lit<}
use lib.ListN.{get_or}
use borrow.Author.Tests.{ltb-true, lt-ltb, eqb-true}
use Rattle.base.specs.Below.{all_below}
use Rattle.base.proofs.Below.{all_at}
use Rattle.base.proofs.Cases.{by_test}
use Rattle.values.specs.Nine.{code_of}
use Rattle.values.specs.Resolve.{entries, pair_in, closed, row_symmetric, symmetric, pair_associative, row_associative, associative, PairLaws}

pub code_below : (x : ℕ) → code_of x < 9
unfolding code_of
code_below x = by_test (λ y. y < 9) (ltb x 9) x 1 (ltb-true x 9) (λ e. lit< tt)

pub code_self : (x : ℕ) → x < 9 → code_of x ≡ x
unfolding code_of
code_self x h = rw (lt-ltb x 9 h)

pub code_twice : (x : ℕ) → code_of (code_of x) ≡ code_of x
code_twice x = code_self (code_of x) (code_below x)

-- f sees the codes alone
abbrev pub Coded : (ℕ → ℕ → ℕ) → Type 0
Coded f = (x y : ℕ) → f (code_of x) (code_of y) ≡ f x y

pub table_coded : (t : List ℕ) → Coded (pair_in t)
unfolding pair_in
table_coded t x y = rw (code_twice x, code_twice y)

-- a test at each pair of codes
pub two : (f : ℕ → ℕ → Bool) → all_below (λ x. all_below (f x) 9) 9 ≡ true → (x y : ℕ) → f (code_of x) (code_of y) ≡ true
two f t x y = all_at (f (code_of x)) 9 (code_of y) (code_below y) (all_at (λ x. all_below (f x) 9) 9 (code_of x) (code_below x) t)

-- and at each three of them
pub three : (f : ℕ → ℕ → ℕ → Bool) → all_below (λ x. all_below (λ y. all_below (f x y) 9) 9) 9 ≡ true → (x y z : ℕ) → f (code_of x) (code_of y) (code_of z) ≡ true
three f t x y z = two (f (code_of x)) (all_at (λ x. all_below (λ y. all_below (f x y) 9) 9) 9 (code_of x) (code_below x) t) y z

-- two functions agree at each pair of codes
unfoldable pub same : (ℕ → ℕ → ℕ) → (ℕ → ℕ → ℕ) → Bool
same f g = all_below (λ x. all_below (λ y. eqb (f x y) (g x y)) 9) 9

pub agree : (f g : ℕ → ℕ → ℕ) → Coded f → Coded g → same f g ≡ true → (x y : ℕ) → f x y ≡ g x y
unfolding same
agree f g p q t x y = sym (p x y) ∙ eqb-true (f (code_of x) (code_of y)) (g (code_of x) (code_of y)) (two (λ x y. eqb (f x y) (g x y)) t x y) ∙ q x y

-- a function that gives codes at the codes gives codes
pub below : (g : ℕ → ℕ → ℕ) → Coded g → all_below (λ x. all_below (λ y. ltb (g x y) 9) 9) 9 ≡ true → (x y : ℕ) → g x y < 9
below g p e x y = rw (← p x y) (ltb-true (g (code_of x) (code_of y)) 9 (two (λ x y. ltb (g x y) 9) e x y))

-- the laws of any table that passes the tests
module _ (t : List ℕ) where
  in_code : closed t ≡ true → (x y : ℕ) → pair_in t x y < 9
  unfolding closed pair_in
  in_code h x y =
      let k = 9 * code_of x + code_of y in
      let l : k < entries = omega (arith, code_below x, code_below y) in
      ltb-true _ 9 (all_at (λ n. ltb (get_or t n 0) 9) entries k l h)

  commute : symmetric t ≡ true → (x y : ℕ) → pair_in t x y ≡ pair_in t y x
  unfolding symmetric row_symmetric same
  commute h x y = agree (pair_in t) (λ x y. pair_in t y x) (table_coded t) (λ x y. table_coded t y x) h x y

  left_code : (x y : ℕ) → pair_in t (code_of x) y ≡ pair_in t x y
  unfolding pair_in
  left_code x y = rw (code_twice x)

  right_code : (x y : ℕ) → pair_in t x (code_of y) ≡ pair_in t x y
  unfolding pair_in
  right_code x y = rw (code_twice y)

  associate : associative t ≡ true → (x y z : ℕ) → pair_in t (pair_in t x y) z ≡ pair_in t x (pair_in t y z)
  unfolding associative row_associative pair_associative
  associate h x y z =
      let p : ℕ → ℕ → ℕ → ℕ = λ x y z. pair_in t (pair_in t x y) z in
      let q : ℕ → ℕ → ℕ → ℕ = λ x y z. pair_in t x (pair_in t y z) in
      let e = eqb-true (p (code_of x) (code_of y) (code_of z)) (q (code_of x) (code_of y) (code_of z)) (three (λ x y z. eqb (p x y z) (q x y z)) h x y z) in
      simp (left_code, right_code) at e

  pub pair_laws : closed t ≡ true → symmetric t ≡ true → associative t ≡ true → PairLaws (pair_in t)
  pair_laws c s a = record { code = in_code c; commutes = commute s; associates = associate a }
