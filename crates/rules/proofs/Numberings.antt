-- Numberings of a signal's drivers: rearranged drivers have rearranged values, and the resolution by an accepted model's table does not
-- depend on the order of the values. Assumes nothing.
use mathlib.Core.Path.{◌≡◌, refl, sym, ◌∙◌}
use mathlib.Core.Logic.{∥∥₁_elim}
use mathlib.Core.List.Permᴰ
use mathlib.Core.List.{List, [], ◌∷◌, ◌++◌, append_assoc, append-nil, Permᴰ, Perm}
use Prim.Native.Nat.{ℕ, zero, suc}
use native.Mathlib.Nat.{ℕ_set}
use lib.ListN.{length}
use Rattle.base.specs.Below.{join_below, list_below}
use Rattle.values.specs.Resolve.{pair_in, resolution_by}
use Rattle.values.proofs.Resolution.{resolution_laws}
use Rattle.blocks.specs.Records.{Model}
use Rattle.tables.specs.Tables.{table_of}
use Rattle.model.specs.Facts.{Facts}
use Rattle.rules.specs.Configuration.{DriverState, driving_by, driving_of, resolved_or, first_signal}
use Rattle.rules.specs.Numberings.{driving_as, Numbering, OneValue}

-- two lists in front exchanged
exchanged : (xs ys zs : List ℕ) → Permᴰ (xs ++ (ys ++ zs)) (ys ++ (xs ++ zs))
exchanged [] ys zs = Permᴰ.refl (ys ++ zs)
exchanged (x ∷ xs) ys zs = Permᴰ.trans (Permᴰ.cons refl (exchanged xs ys zs)) (Permᴰ.symm (Permᴰ.middle x ys (xs ++ zs)))

module _ (M : Model) (ds : List DriverState) (s : ℕ) where
  values : {ks ls : List ℕ} → Permᴰ ks ls → Permᴰ (driving_as M ds s ks) (driving_as M ds s ls)
  unfolding driving_as
  values Permᴰ.nil = Permᴰ.nil
  values (Permᴰ.cons {b = b} e p) = rw e (Permᴰ.append_left (driving_by M ds s b) (values p))
  values (Permᴰ.swap {a' = a'} {b' = b'} {l = l} e f) = rw (e, f) (exchanged (driving_by M ds s b') (driving_by M ds s a') (driving_as M ds s l))
  values (Permᴰ.trans p q) = Permᴰ.trans (values p) (values q)

  -- the drivers behind those of a list
  split : (ks ls : List ℕ) → driving_as M ds s (ks ++ ls) ≡ driving_as M ds s ks ++ driving_as M ds s ls
  unfolding driving_as
  split [] ls = refl
  split (k ∷ ks) ls = rw (split ks ls, append_assoc)

  -- the records' own numbering is the rules'
  upto : (n : ℕ) → driving_as M ds s (list_below (λ k. k) n) ≡ join_below (driving_by M ds s) n
  unfolding list_below join_below driving_as
  upto zero = refl
  upto (suc n) = rw (split (list_below (λ k. k) n) (n ∷ []), upto n, append-nil)

  recorded : driving_as M ds s (list_below (λ k. k) (length M.drivers)) ≡ driving_of M ds s
  unfolding driving_of
  recorded = upto (length M.drivers)

  module _ (fs : Facts M) (other : ℕ) where
    order : (vs ws : List ℕ) → Perm vs ws → resolution_by (pair_in (table_of M)) vs ≡ resolution_by (pair_in (table_of M)) ws
    order = (resolution_laws (pair_in (table_of M)) fs.pairs).order

    same_resolution : {vs ws : List ℕ} → Permᴰ vs ws → resolved_or M other vs ≡ resolved_or M other ws
    same_resolution Permᴰ.nil = refl
    same_resolution (Permᴰ.cons e p) = order _ _ ∣ Permᴰ.cons e p ∣₁
    same_resolution (Permᴰ.swap e f) = order _ _ ∣ Permᴰ.swap e f ∣₁
    same_resolution (Permᴰ.trans p q) = same_resolution p ∙ same_resolution q

    by_numbering : (ks : List ℕ) → Numbering M ks → resolved_or M other (driving_as M ds s ks) ≡ resolved_or M other (driving_of M ds s)
    by_numbering ks p = ∥∥₁_elim p (ℕ_set _ _) (λ q. same_resolution (values q)) ∙ rw recorded

pub one_value : (M : Model) → Facts M → OneValue M
unfolding first_signal
one_value M fs =
    record {
      any = λ ds s other ks ls p q. by_numbering M ds s fs other ks p ∙ sym (by_numbering M ds s fs other ls q);
      first = λ s ks p. by_numbering M _ s fs _ ks p;
      after = λ c s ks p. by_numbering M _ s fs _ ks p;
    }
