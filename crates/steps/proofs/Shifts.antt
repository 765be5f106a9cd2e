-- The past of the signals after a time step: what a loop over the entries leaves is each history shifted. Assumes nothing.
use mathlib.Core.Path.{◌≡◌, refl, sym, ap, ◌∙◌}
use mathlib.Core.List.{List, [], ◌++◌, map}
use Prim.Native.Nat.{ℕ, ◌+◌, ◌-◌, ◌*◌, ◌%◌, ◌≤◌, ◌<◌, min}
use native.Mathlib.Nat.{le_antisymm}
use native.Mathlib.Decide.{dec_lt}
use native.Mathlib.Omega.{arith}
use lib.ListN.{length, get_or, replicate, length-replicate, length-map, get_or-replicate, get_or-append}
use lib.Seq.{get_or-take, ext_get_or, get_or-append-add}
use Rattle.base.specs.Below.{list_below}
use Rattle.base.proofs.Below.{map_at, list_length, list_at}
use Rattle.rules.specs.Steps.{shifted}
use Rattle.rules.proofs.AdvanceReachable.{shifted_length}
use Rattle.steps.specs.Entries.{history_of}
use Rattle.steps.specs.Shift.{Between, MovedBy, FilledTo, ShiftedBy}

-- a history of the array
pub history_at : (l : List ℕ) (s k : ℕ) → k < 32 → get_or (history_of l s) k 0 ≡ get_or l (32 * s + k) 0
unfolding history_of
history_at l s k h = list_at (λ k. get_or l (32 * s + k) 0) 0 32 k h

-- entries written from the one before hi down
module _ (f : ℕ → ℕ) (old : List ℕ) (hi : ℕ) where
  pub between_none : (j : ℕ) → hi ≡ j + 1 → Between f old j hi old
  between_none j e = record { long = refl; done = λ i l h. absurd (omega arith); before = λ i l. refl; after = λ i l. refl }

-- history after history
module _ (old : List ℕ) (n : ℕ) where
  pub shift_none : ShiftedBy old n 0 old
  shift_none = record { done = λ j l. absurd (omega arith); left = λ j l. refl }

  -- one history more
  pub shift_turn : (a b c : List ℕ) (s k : ℕ) → k ≡ min 31 n → MovedBy a (32 * s) k b → FilledTo b (32 * s) k c → ShiftedBy old n s a → ShiftedBy old n (s + 1) c
  shift_turn a b c s k e m f h =
      record {
        done = λ j l. elim (dec_lt (32 * s) j) [
          | yes p ↦ elim (dec_lt (32 * s + k) j) [ yes q ↦ past j p q (omega arith) | no q ↦ recent j p (omega (arith, q)) ]
          | no p ↦ first j (omega (arith, p))
        ];
        left = λ j l. f.after j (omega arith) ∙ m.after j (omega arith) ∙ h.left j (omega arith);
      }
    where
      first : (j : ℕ) → j ≤ 32 * s → get_or c j 0 ≡ get_or old (j - min (j % 32) n) 0
      first j l = f.before j l ∙ m.before j (omega arith) ∙ elim (dec_lt j (32 * s)) [
        | yes p ↦ h.done j p
        | no p ↦ let z : j - min (j % 32) n ≡ j = omega (arith, p) in rw z (h.left j (omega (arith, p)))
      ]

      recent : (j : ℕ) → 32 * s < j → j ≤ 32 * s + k → get_or c j 0 ≡ get_or old (j - min (j % 32) n) 0
      recent j p q =
          let z : j - min (j % 32) n ≡ 32 * s = omega arith in
          f.done j p (omega arith) ∙ m.before (32 * s) (omega arith) ∙ h.left (32 * s) (omega arith) ∙ rw z

      past : (j : ℕ) → 32 * s < j → 32 * s + k < j → j < 32 * s + 32 → get_or c j 0 ≡ get_or old (j - min (j % 32) n) 0
      past j p q l =
          let z : j - min (j % 32) n ≡ j - k = omega arith in
          f.after j (omega arith) ∙ m.done j q l ∙ h.left (j - k) (omega arith) ∙ rw z

  pub shift_all : (new : List ℕ) (s nsignals : ℕ) → s ≤ nsignals → nsignals ≤ s → ShiftedBy old n s new → ShiftedBy old n nsignals new
  shift_all new s nsignals a b h = rw (le_antisymm a b) at h

-- the value of k units ago, after n units
shifted_at : (n : ℕ) (h : List ℕ) (k : ℕ) → k < 32 → get_or (shifted n h) k 0 ≡ get_or h (k - min k n) 0
unfolding shifted
shifted_at n h k l = get_or-take 32 (replicate (min n 32) first ++ h) k 0 l ∙ elim (dec_lt k n) [ yes p ↦ fresh p | no q ↦ stale (omega (arith, q)) ]
  where
    first : ℕ
    first = get_or h 0 0

    fresh : k < n → get_or (replicate (min n 32) first ++ h) k 0 ≡ get_or h (k - min k n) 0
    fresh p =
        let z : k - min k n ≡ 0 = omega arith in
        get_or-append (replicate (min n 32) first) h 0 k (omega (arith, length-replicate (min n 32) first))
        ∙ get_or-replicate (min n 32) k first 0 (omega arith) ∙ rw z

    stale : n ≤ k → get_or (replicate (min n 32) first ++ h) k 0 ≡ get_or h (k - min k n) 0
    stale p =
        let e : k ≡ length (replicate (min n 32) first) + (k - min k n) = omega (arith, length-replicate (min n 32) first) in
        ap (λ (i : ℕ). get_or (replicate (min n 32) first ++ h) i 0) e ∙ get_or-append-add (replicate (min n 32) first) h (k - min k n) 0

history_length : (a : List ℕ) (s : ℕ) → length (history_of a s) ≡ 32
unfolding history_of
history_length a s = list_length (λ k. get_or a (32 * s + k) 0) 32

history_shifted : (old new : List ℕ) (n nsignals s : ℕ) → ShiftedBy old n nsignals new → s < nsignals → history_of new s ≡ shifted n (history_of old s)
history_shifted old new n nsignals s h l =
    ext_get_or 0 (history_of new s) (shifted n (history_of old s)) (history_length new s ∙ sym (shifted_length n (history_of old s) (history_length old s)))
    (λ k m. each k (rw (history_length new s) at m))
  where
    each : (k : ℕ) → k < 32 → get_or (history_of new s) k 0 ≡ get_or (shifted n (history_of old s)) k 0
    each k m =
        let r : (32 * s + k) % 32 ≡ k = omega arith in
        let p : 32 * s + k - min k n ≡ 32 * s + (k - min k n) = omega arith in
        history_at new s k m
        ∙ h.done (32 * s + k) (omega arith)
        ∙ rw (r, p)
        (sym (shifted_at n (history_of old s) k m ∙ history_at old s (k - min k n) (omega arith)))

-- all histories are shifted
pub all_shifted : (old new : List ℕ) (n nsignals : ℕ) → ShiftedBy old n nsignals new → list_below (history_of new) nsignals ≡ map (shifted n) (list_below (history_of old) nsignals)
all_shifted old new n nsignals h =
    ext_get_or [] (list_below (history_of new) nsignals) (map (shifted n) (list_below (history_of old) nsignals))
    (list_length (history_of new) nsignals ∙ sym (length-map (list_below (history_of old) nsignals) (shifted n) ∙ list_length (history_of old) nsignals))
    (λ s l. each s (rw (list_length (history_of new) nsignals) at l))
  where
    each : (s : ℕ) → s < nsignals → get_or (list_below (history_of new) nsignals) s [] ≡ get_or (map (shifted n) (list_below (history_of old) nsignals)) s []
    each s l =
        list_at (history_of new) [] nsignals s l
        ∙ history_shifted old new n nsignals s h l
        ∙ sym (map_at (shifted n) (list_below (history_of old) nsignals) s [] [] (rw list_length l) ∙ ap (shifted n) (list_at (history_of old) [] nsignals s l))
