-- The words of a check, written one after the other. Assumes nothing.
use mathlib.Core.Path.{◌≡◌, sym}
use mathlib.Core.List.{List, [], ◌∷◌, ◌++◌, append_assoc, append-nil}
use Prim.Native.Nat.{ℕ, ◌+◌, ◌≤◌, ◌<◌}
use native.Mathlib.Nat.{le_antisymm}
use native.Mathlib.Omega.{arith}
use lib.ListN.{length, get_or, set, drop, length-append, length-set, length-drop, drop_of_length-le}
use Rattle.base.specs.Below.{list_below}
use Rattle.base.specs.Cases.{◌∣◌, ◌⇒◌}
use Rattle.base.proofs.Below.{list_none, list_more, list_length, list_same, put_next}
use mir.Val.{bool_byte}
use Rattle.std.proofs.Common.{Bool, true, false, refl, Some, None, Ok, Err, replicate}
use Rattle.base.specs.declared.refusal.Refusal.{Refusal}
use Rattle.chains.specs.Rows.{IsChain}
use Rattle.chains.specs.declared.Chain.{Chain}
use Rattle.chains.proofs.Held.{held_length, held_at}
use Rattle.loop_check.proofs.CheckLaws.{refused_check_of}
use Rattle.loop_check.specs.Check.{check_of, CheckIs}
use Rattle.loop_check.specs.declared.Checked.{Checked}
use Rattle.loop_exports.specs.Words.{words_of}

-- a test as a word
pub truth_is : (b : Bool) → bool_byte b ≡ (b ⇒ 1 ∣ 0)
truth_is true = refl
truth_is false = refl

module _ (old at : List ℕ) where
  -- the first i words are written
  pub record Written (out : List ℕ) (i : ℕ) : Type 0 where
    pub room : length old ≡ 18
    pub most : i ≤ 16
    pub words : out ≡ list_below (λ j. get_or at j 0) i ++ drop i old

  pub none_written : length old ≡ 18 → Written old 0
  none_written room = record { room = room; most = omega arith; words = rw list_none }

  pub one_written : (out : List ℕ) (i : ℕ) → i < 16 → Written out i → Written (set out i (get_or at i 0)) (i + 1)
  one_written out i h w =
      record {
        room = w.room;
        most = omega arith;
        words = rw (w.words, list_more) (put_next (list_below (λ j. get_or at j 0) i) old i (get_or at i 0) (list_length _ i) (omega (arith, w.room)));
      }

  pub written_length : (out : List ℕ) (i : ℕ) → Written out i → length out ≡ 18
  written_length out i w = rw w.words (simp (length-append, list_length, length-drop) (omega (arith, w.most, w.room)))

  pub room_left : (out : List ℕ) (i : ℕ) → Written out i → (x : ℕ) → 17 < length (set out 16 x)
  room_left out i w x = omega (arith, length-set out 16 x, written_length out i w)

  pub same_room : (out : List ℕ) (i : ℕ) → Written out i → (x y : ℕ) → length (set (set out 16 x) 17 y) ≡ length old
  same_room out i w x y = omega (arith, length-set (set out 16 x) 17 y, length-set out 16 x, written_length out i w, w.room)

  -- and the two behind them
  pub all_written : (out : List ℕ) (i : ℕ) → 16 ≤ i → Written out i → (len later : ℕ)
      → set (set out 16 len) 17 later ≡ list_below (λ j. get_or at j 0) 16 ++ (len ∷ later ∷ [])
  all_written out i h w len later =
      let room = w.room in
      let n : i ≡ 16 = le_antisymm w.most h in
      let words : out ≡ list_below (λ j. get_or at j 0) 16 ++ drop 16 old = rw n at w.words in
      let p : List ℕ = list_below (λ j. get_or at j 0) 16 in
      let long : length p ≡ 16 = list_length _ 16 in
      let longer : length (p ++ (len ∷ [])) ≡ 17 = rw (length-append, long) in
      let full : length old ≤ 18 = omega arith in
      let a : set (p ++ drop 16 old) 16 len ≡ (p ++ (len ∷ [])) ++ drop 17 old = put_next p old 16 len long (omega arith) in
      let b : set ((p ++ (len ∷ [])) ++ drop 17 old) 17 later ≡ ((p ++ (len ∷ [])) ++ (later ∷ [])) ++ drop 18 old =
      put_next (p ++ (len ∷ [])) old 17 later longer (omega arith) in
      let c : drop 18 old ≡ [] = drop_of_length-le old full in
      rw (words, a, b, c, append-nil, append_assoc)

-- they are those of the check
module _ (m : List ℕ) (k : Checked) (is : CheckIs m (Ok k)) where
  pub chain_words : (c : Chain) → k.chain ≡ Some c → list_below (λ j. get_or c.at j 0) 16 ++ (c.len ∷ (k.later ⇒ 1 ∣ 0) ∷ []) ≡ words_of (check_of m)
  chain_words c e =
      let h : IsChain (check_of m).chain c = rw e at is.found.chain in
      let d : list_below (λ j. get_or (check_of m).chain j 0) 16 ≡ list_below (λ j. get_or c.at j 0) 16 =
      list_same _ _ 16 (λ j l. sym (held_at _ c h j)) in
      rw (d, held_length _ c h, is.found.later)

  pub no_words : k.chain ≡ None → list_below (λ j. get_or (replicate 16 0) j 0) 16 ++ (0 ∷ (k.later ⇒ 1 ∣ 0) ∷ []) ≡ words_of (check_of m)
  unfolding list_below
  no_words e = let none : (check_of m).chain ≡ [] = rw e at is.found.chain in rw (none, is.found.later)

-- and of a refused model those of no chain
pub refused_words : (m : List ℕ) (r : Refusal) → CheckIs m (Err r) → list_below (λ j. get_or (replicate 16 0) j 0) 16 ++ (0 ∷ 0 ∷ []) ≡ words_of (check_of m)
unfolding list_below
refused_words m r is = rw (refused_check_of m r is)
