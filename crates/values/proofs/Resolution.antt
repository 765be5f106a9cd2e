-- The laws of resolution, by any pair that has the pair's laws, and of the standard's table, which passes the tests.
-- Assumes nothing.
use mathlib.Core.Path.{◌≡◌, refl, sym, ap, ◌∙◌}
use mathlib.Core.Logic.{∥∥₁_elim}
use mathlib.Core.List.{List, [], ◌∷◌, ◌++◌, foldl, foldl-append, Permᴰ}
use mathlib.Core.Bool.{Bool, true, false}
use Prim.Native.Nat.{ℕ, ◌<◌}
use native.Mathlib.Nat.{ℕ_set}
use native.Mathlib.Omega.{arith}
use lib.Dec.{lit<}
use lib.ListN.{length, get_or}
use Rattle.base.specs.Below.{all_below, list_below}
use Rattle.base.specs.Cases.{◌∣◌, ◌⇒◌}
use Rattle.values.specs.Nine.{code_of}
use Rattle.values.specs.Resolve.{standard_rows, entry_of, table_by, standard, pair_in, pair_of, resolution_by, closed, row_symmetric, symmetric, pair_associative, row_associative, associative, PairLaws, ResolutionLaws, TableLaws}
use Rattle.values.proofs.Tables.{pair_laws}

module _ (f : ℕ → ℕ → ℕ) (laws : PairLaws f) where
  exchange : (a x y : ℕ) → f (f a x) y ≡ f (f a y) x
  exchange a x y = laws.associates a x y ∙ ap (f a) (laws.commutes x y) ∙ sym (laws.associates a y x)

  fold_order : {xs ys : List ℕ} (a : ℕ) → Permᴰ xs ys → foldl f a xs ≡ foldl f a ys
  fold_order a Permᴰ.nil = refl
  fold_order a (Permᴰ.cons {b = b} e p) = rw e (fold_order (f a b) p)
  fold_order a (Permᴰ.swap {a' = a'} {b' = b'} {l = l} e g) = rw (e, g, exchange a b' a')
  fold_order a (Permᴰ.trans p q) = fold_order a p ∙ fold_order a q

  order_of_lem : {xs ys : List ℕ} → Permᴰ xs ys → resolution_by f xs ≡ resolution_by f ys
  unfolding resolution_by
  order_of_lem Permᴰ.nil = refl
  order_of_lem (Permᴰ.cons {b = b} e p) = rw e (fold_order b p)
  order_of_lem (Permᴰ.swap {a' = a'} {b' = b'} {l = l} e g) = rw (e, g, laws.commutes b' a')
  order_of_lem (Permᴰ.trans p q) = order_of_lem p ∙ order_of_lem q

  fold_code : (xs : List ℕ) (a : ℕ) → a < 9 → foldl f a xs < 9
  fold_code [] a h = h
  fold_code (x ∷ xs) a h = fold_code xs (f a x) (laws.code a x)

  code_of_lem : (xs : List ℕ) → ((k : ℕ) → k < length xs → get_or xs k 0 < 9) → resolution_by f xs < 9
  unfolding resolution_by
  code_of_lem [] h = lit< tt
  code_of_lem (x ∷ xs) h = fold_code xs x (h 0 (omega arith))

  one_of : (x : ℕ) → resolution_by f (x ∷ []) ≡ x
  unfolding resolution_by
  one_of x = refl

  pub resolution_laws : ResolutionLaws f
  resolution_laws = record { one = one_of; code = code_of_lem; order = λ xs ys p. ∥∥₁_elim p (ℕ_set (resolution_by f xs) (resolution_by f ys)) order_of_lem }

-- the laws of any table that passes the tests
pub table_laws : (t : List ℕ) → TableLaws t
table_laws t =
    record {
      pairs = pair_laws t;
      resolutions = λ c s a. resolution_laws (pair_in t) (pair_laws t c s a);
    }

pub standard_closed : closed standard ≡ true
unfolding pair_in standard table_by list_below entry_of standard_rows closed all_below code_of
standard_closed = refl

pub standard_symmetric : symmetric standard ≡ true
unfolding pair_in standard table_by list_below entry_of standard_rows symmetric row_symmetric all_below code_of
standard_symmetric = refl

pub standard_associative : associative standard ≡ true
unfolding pair_in standard table_by list_below entry_of standard_rows associative row_associative pair_associative all_below code_of
standard_associative = refl

pub standard_resolution : ResolutionLaws pair_of
unfolding pair_of
standard_resolution = (table_laws standard).resolutions standard_closed standard_symmetric standard_associative

-- there is a value
abbrev pub some : List ℕ → Bool
some [] = false
some (v ∷ vs) = true

pub some_more : (vs : List ℕ) (x : ℕ) → some (vs ++ (x ∷ [])) ≡ true
some_more [] x = refl
some_more (v ∷ vs) x = refl

-- one value more
module _ (f : ℕ → ℕ → ℕ) where
  pub resolution_more : (vs : List ℕ) (x : ℕ) → resolution_by f (vs ++ (x ∷ [])) ≡ (some vs ⇒ f (resolution_by f vs) x ∣ x)
  unfolding resolution_by
  resolution_more [] x = refl
  resolution_more (v ∷ vs) x = foldl-append f v vs (x ∷ [])
