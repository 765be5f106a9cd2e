-- The laws of blocks: where the records of a kind begin, and that each lies within the model. Assumes nothing.
use mathlib.Core.Path.{◌≡◌, refl}
use mathlib.Core.Bool.{Bool, true, false}
use mathlib.Core.List.{List}
use Prim.Native.Nat.{ℕ, ◌+◌, ◌≤◌, ◌<◌}
use native.Mathlib.Nat.{not-suc-le-zero}
use native.Mathlib.Omega.{arith}
use borrow.Author.Tests.{leb-true, eqb-true}
use lib.Dec.{eqb}
use lib.ListN.{length, get_or}
use Rattle.base.specs.Cases.{◌∣◌, ◌⇒◌}
use Rattle.base.specs.Below.{sum_below, join_below, list_below}
use Rattle.base.proofs.Below.{every_at, all_at, sum_upto, list_at, list_length, join_each, join_length, join_more}
use Rattle.base.proofs.Cases.{choice_most}
use Rattle.blocks.specs.Blocks.{blocks_of, length_ok, kind_at, count_at, head_ok, heads_ok, count_in, start_at, starts_in, starts_of, total_of}
use Rattle.blocks.specs.Index.{placed}
use Rattle.blocks.proofs.Places.{placed_more}

choice_some : (t : Bool) (n j : ℕ) → j < (t ⇒ n ∣ 0) → t ≡ true
choice_some true n j h = refl
choice_some false n j h = absurd (not-suc-le-zero h)

module _ (m : List ℕ) where
  pub length_most : length_ok m ≡ true → length m ≤ 32768
  unfolding length_ok
  length_most h = leb-true (length m) 32768 (every_at _ 2 h)

  pub head_count : (b : ℕ) → head_ok m b ≡ true → count_at m b ≤ 42
  unfolding head_ok
  head_count b h = leb-true (count_at m b) 42 (every_at _ 3 h)

  pub head_kind : (b : ℕ) → head_ok m b ≡ true → (1 ≤ kind_at m b) × (kind_at m b ≤ 7)
  unfolding head_ok
  head_kind b h = (leb-true 1 (kind_at m b) (every_at _ 1 h), leb-true (kind_at m b) 7 (every_at _ 2 h))

  count_kind : (k b j : ℕ) → j < count_in k m b → kind_at m b ≡ k
  unfolding count_in
  count_kind k b j h = eqb-true (kind_at m b) k (choice_some (eqb (kind_at m b) k) (count_at m b) j h)

  pub count_le : (k b : ℕ) → count_in k m b ≤ count_at m b
  unfolding count_in
  count_le k b = choice_most (eqb (kind_at m b) k) (count_at m b)

  -- the records up to block b, and those in it, are within the total
  pub total_upto : (k b : ℕ) → b < blocks_of m → sum_below (count_in k m) b + count_in k m b ≤ total_of k m
  unfolding total_of
  total_upto k b h = sum_upto (count_in k m) (blocks_of m) b h

  pub starts_upto : (k b : ℕ) → length (join_below (starts_in k m) b) ≡ sum_below (count_in k m) b
  unfolding starts_in
  starts_upto k b = join_length (starts_in k m) (count_in k m) (λ i. list_length (start_at i) _) b

  pub starts_length : (k : ℕ) → length (starts_of k m) ≡ total_of k m
  unfolding starts_of total_of
  starts_length k = starts_upto k (blocks_of m)

  -- each record lies within the model
  pub starts_in_lem : (k n : ℕ) → heads_ok m ≡ true → n < total_of k m → get_or (starts_of k m) n 0 + 12 ≤ length m
  unfolding starts_of starts_in heads_ok
  starts_in_lem k n h l =
      let g : n < length (starts_of k m) = rw starts_length l in
      join_each (starts_in k m) (λ s. s + 12 ≤ length m) 0 (blocks_of m)
      (λ b lb j lj.
      let c : j < count_in k m b = rw (list_length (start_at b) (count_in k m b)) at lj in
      rw (list_at (start_at b) 0 (count_in k m b) j c)
      (omega (arith, count_le k b, head_count b (all_at (head_ok m) (blocks_of m) b lb h))))
      n g

  -- a record's kind is one of the seven
  pub total_kind : (k n : ℕ) → heads_ok m ≡ true → n < total_of k m → (1 ≤ k) × (k ≤ 7)
  unfolding starts_of starts_in heads_ok
  total_kind k n h l =
      let g : n < length (starts_of k m) = rw starts_length l in
      join_each (starts_in k m) (λ s. (1 ≤ k) × (k ≤ 7)) 0 (blocks_of m)
      (λ b lb j lj.
      let c : j < count_in k m b = rw (list_length (start_at b) (count_in k m b)) at lj in
      rw (count_kind k b j c) at (head_kind b (all_at (head_ok m) (blocks_of m) b lb h)))
      n g

  -- a loop over the blocks that writes their starts into d from a place on: one turn more
  pub placed_block : (k : ℕ) (d out : List ℕ) (at b n r : ℕ) → b < blocks_of m → at + total_of k m ≤ length d → n ≡ at + sum_below (count_in k m) b → out ≡ placed d at (join_below (starts_in k m) b) → r ≡ count_in k m b → placed out n (list_below (start_at b) r) ≡ placed d at (join_below (starts_in k m) (b + 1))
  unfolding starts_in
  placed_block k d out at b n r l h e o c =
      let f : at + length (join_below (starts_in k m) b) ≤ length d = rw starts_upto (omega (arith, total_upto k b l)) in
      let g : n ≡ at + length (join_below (starts_in k m) b) = rw starts_upto e in
      rw (join_more, o, g, c) (placed_more d at (join_below (starts_in k m) b) f _)
