-- The driving values as the array of current values has them, the loop that gathers them, and their resolution. Assumes nothing.
use mathlib.Core.Path.{◌≡◌, refl, sym}
use mathlib.Core.Bool.{Bool, true, false, not, ◌&&◌}
use mathlib.Core.List.{List, [], ◌∷◌, ◌++◌, append-nil}
use Prim.Native.Nat.{ℕ, zero, suc, ◌+◌, ◌≤◌, ◌<◌}
use native.Mathlib.Nat.{le_antisymm, not-suc-le-zero}
use native.Mathlib.Numerals.{add-one}
use native.Mathlib.Omega.{arith}
use lib.Dec.{eqb}
use lib.ListN.{length, get_or, set, take, length-set}
use lib.Seq.{take-suc, take-set-le, get_or-set_same}
use Rattle.base.specs.Cases.{◌∣◌, ◌⇒◌}
use Rattle.base.proofs.Below.{join_none, join_more, join_same}
use Rattle.values.specs.Resolve.{pair_in, resolution_by}
use Rattle.blocks.specs.Records.{Model, driver_at}
use Rattle.tables.specs.Tables.{table_of}
use Rattle.rules.specs.Configuration.{DriverState, driver_in, values_of, driving_by, driving_of, resolved_or}
use Rattle.waveforms.specs.Pending.{null_word, driven_of}
use Rattle.rules.specs.declared.driven.Driven.TheVariants.{To, Null}
use Rattle.steps.specs.Entries.{driving_in}

-- the array has each driver's current value
pub driving_is : (M : Model) (cs : List ℕ) (ds : List DriverState) (n s : ℕ) → n ≡ length M.drivers → ((k : ℕ) → k < n → driven_of (get_or cs k 0) ≡ (driver_in ds k).current) → driving_in M cs s n ≡ driving_of M ds s
unfolding driving_in driving_of
driving_is M cs ds n s e h = rw (← e) (join_same _ (driving_by M ds s) n (λ k l. rw (h k l)))

-- what a driver adds: its word where it drives the signal and is not null
added : (b : Bool) (x : ℕ) → (b ⇒ values_of (driven_of x) ∣ []) ≡ (b && not (eqb x null_word) ⇒ (x ∷ []) ∣ [])
unfolding driven_of
added false x = refl
added true x = elim (eqb x null_word) as (λ e. values_of (e ⇒ Null ∣ To x) ≡ (not e ⇒ (x ∷ []) ∣ [])) [ true ↦ refl | false ↦ refl ]

-- the first n entries are the values of those of the first k drivers that drive s and are on
pub record Gathered (M : Model) (cs : List ℕ) (s k : ℕ) (xs : List ℕ) (n : ℕ) : Type 0 where
  pub room : length xs ≡ 64
  pub most : n ≤ k
  pub values : take n xs ≡ driving_in M cs s k

module _ (M : Model) (cs : List ℕ) (s : ℕ) where
  pub gathered_none : (xs : List ℕ) → length xs ≡ 64 → Gathered M cs s 0 xs 0
  unfolding driving_in
  gathered_none xs e = record { room = e; most = omega arith; values = sym (join_none _) }

  module _ (k n : ℕ) (xs : List ℕ) (h : k < 64) (d : ℕ) (e : d ≡ (driver_at M k).signal) (g : Gathered M cs s k xs n) where
    -- with driver k, whose word is x
    with : (b : Bool) → (eqb d s && not (eqb (get_or cs k 0) null_word)) ≡ b → driving_in M cs s (k + 1) ≡ driving_in M cs s k ++ (b ⇒ (get_or cs k 0 ∷ []) ∣ [])
    unfolding driving_in
    with b t = rw (join_more, ← e, added (eqb d s) (get_or cs k 0), t)

    pub gathered_more : (eqb d s && not (eqb (get_or cs k 0) null_word)) ≡ true → Gathered M cs s (k + 1) (set xs n (get_or cs k 0)) (n + 1)
    gathered_more t =
        let l : n < length (set xs n (get_or cs k 0)) = rw (length-set, g.room) (omega (arith, g.most)) in
        record {
          room = rw length-set g.room;
          most = omega (arith, g.most);
          values =
              rw (with true t, add-one n, take-suc (set xs n (get_or cs k 0)) n 0 l, take-set-le n xs n (get_or cs k 0) (omega arith), get_or-set_same xs n (get_or cs k 0) 0 (rw length-set at l), g.values);
        }

    pub gathered_same : (eqb d s && not (eqb (get_or cs k 0) null_word)) ≡ false → Gathered M cs s (k + 1) xs n
    gathered_same t = record { room = g.room; most = omega (arith, g.most); values = rw (with false t, append-nil) g.values }

  -- all drivers are done
  pub gathered_all : (k n m : ℕ) (xs : List ℕ) → k ≤ m → m ≤ k → Gathered M cs s k xs n → take n xs ≡ driving_in M cs s m
  gathered_all k n m xs h l g = rw (le_antisymm h l) at g.values

-- none drives, or some do and r is the resolution of what they drive by the model's table
pub none_drives : (M : Model) (other n : ℕ) (xs vs : List ℕ) → n ≡ 0 → take n xs ≡ vs → other ≡ resolved_or M other vs
none_drives M other n xs vs z e = rw (← e, z)

pub some_drive : (M : Model) (other n r : ℕ) (t xs vs : List ℕ) → (n ≡ 0 → ⊥) → n ≤ length xs → t ≡ table_of M → r ≡ resolution_by (pair_in t) (take n xs) → take n xs ≡ vs → r ≡ resolved_or M other vs
some_drive M other zero r t xs vs z h i q e = absurd (z refl)
some_drive M other (suc n) r t [] vs z h i q e = absurd (not-suc-le-zero h)
some_drive M other (suc n) r t (x ∷ xs) vs z h i q e = rw (← e, ← i) q
