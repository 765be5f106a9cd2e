-- The laws of `placed`: what is written into a list from a place on. Assumes nothing.
use mathlib.Core.Path.{◌≡◌, refl}
use mathlib.Core.List.{List, [], ◌++◌, append_assoc, append-nil}
use Prim.Native.Nat.{ℕ, ◌+◌, ◌≤◌, ◌<◌}
use native.Mathlib.Nat.{add-zero}
use native.Mathlib.Omega.{arith}
use lib.ListN.{length, get_or, take, drop, set, length-append, take-append-drop, get_or-append}
use lib.Seq.{take_at, drop_at, get_or-take, get_or-append-add, drop-append-add, drop-drop, length-take-le}
use Rattle.base.specs.Below.{list_below}
use Rattle.base.proofs.Below.{list_length, write_next}
use Rattle.blocks.specs.Index.{placed}

pub placed_none : (d : List ℕ) (at : ℕ) → placed d at [] ≡ d
unfolding placed
placed_none d at = rw (append-nil, add-zero) (take-append-drop at d)

-- a loop that writes f 0, f 1, ..: one turn more
pub placed_next : (f : ℕ → ℕ) (d : List ℕ) (at j : ℕ) → at + j < length d → set (placed d at (list_below f j)) (at + j) (f j) ≡ placed d at (list_below f (j + 1))
unfolding placed
placed_next f d at j h =
    let e : at + j + 1 ≡ at + (j + 1) = omega arith in
    rw (list_length f j, list_length f (j + 1), ← e) (write_next f d _ at (at + j) j refl h refl)

module _ (d : List ℕ) (at : ℕ) (xs : List ℕ) (h : at + length xs ≤ length d) where
  front : length (take at d ++ xs) ≡ at + length xs
  front = rw (length-append, length-take-le at d (omega arith))

  -- what is written behind it
  pub placed_more : (ys : List ℕ) → placed (placed d at xs) (at + length xs) ys ≡ placed d at (xs ++ ys)
  unfolding placed
  placed_more ys =
      let t : take (at + length xs) ((take at d ++ xs) ++ drop (at + length xs) d) ≡ take at d ++ xs = take_at _ _ _ front in
      let g : drop (at + length xs + length ys) ((take at d ++ xs) ++ drop (at + length xs) d) ≡ drop (at + length xs + length ys) d = rw (← front, drop-append-add, drop-drop) in
      let e : at + length (xs ++ ys) ≡ at + length xs + length ys = rw length-append (omega arith) in
      rw (t, g, e) (simp append_assoc)

  -- what stands before it
  pub placed_before : (i : ℕ) → i < at → get_or (placed d at xs) i 0 ≡ get_or d i 0
  unfolding placed
  placed_before i l =
      let a : i < length (take at d) = rw (length-take-le at d (omega arith)) l in
      let b : i < length (take at d ++ xs) = rw front (omega arith) in
      rw (get_or-append (take at d ++ xs) _ 0 i b, get_or-append (take at d) xs 0 i a) (get_or-take at d i 0 l)

  -- what stands there
  pub placed_at : (n : ℕ) → n < length xs → get_or (placed d at xs) (at + n) 0 ≡ get_or xs n 0
  unfolding placed
  placed_at n l =
      let b : at + n < length (take at d ++ xs) = rw front (omega arith) in
      let e : length (take at d) + n ≡ at + n = rw (length-take-le at d (omega arith)) in
      rw (get_or-append (take at d ++ xs) _ 0 (at + n) b, ← e) (get_or-append-add (take at d) xs n 0)

  -- that part alone
  pub placed_part : (n : ℕ) → length xs ≡ n → take n (drop at (placed d at xs)) ≡ xs
  unfolding placed
  placed_part n e =
      let t : length (take at d) ≡ at = length-take-le at d (omega arith) in
      rw (append_assoc, drop_at (take at d) (xs ++ drop (at + length xs) d) at t) (take_at xs _ n e)
