-- The laws of the index's types: each is written once, behind the starts. Assumes nothing.
use mathlib.Core.Path.{◌≡◌, ◌∙◌}
use mathlib.Core.List.{List}
use Prim.Native.Nat.{ℕ, ◌+◌, ◌≤◌, ◌<◌}
use native.Mathlib.Omega.{arith}
use borrow.Author.Count.{below_more}
use lib.ListN.{length, get_or, set}
use lib.Seq.{get_or-set_same, get_or-set_other}
use Rattle.blocks.specs.Index.{types_at, assignments_at}
use Rattle.blocks.specs.Records.{model_of}
use Rattle.trees.specs.Trees.{type_of}
use Rattle.trees.specs.Types.{TypesBelow}

pub types_before : (k n : ℕ) → k ≤ 400 → types_at + k ≤ assignments_at + n
types_before k n h = omega arith

module _ (m index : List ℕ) (i v : ℕ) where
  pub types_kept : (n : ℕ) → types_at + n ≤ i → TypesBelow m index n → TypesBelow m (set index i v) n
  types_kept n h t k l = get_or-set_other index i (types_at + k) v 0 (λ e. omega arith) ∙ t k l

module _ (m index : List ℕ) (n v : ℕ) where
  pub types_next : types_at + n < length index → v ≡ type_of (model_of m) n → TypesBelow m index n → TypesBelow m (set index (types_at + n) v) (n + 1)
  types_next h e t =
      below_more (λ k. get_or (set index (types_at + n) v) (types_at + k) 0 ≡ type_of (model_of m) k) n (types_kept m index (types_at + n) v n (omega arith) t)
      (get_or-set_same index (types_at + n) v 0 h ∙ e)
