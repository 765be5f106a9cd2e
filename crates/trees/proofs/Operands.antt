-- The laws of operands: how many a node of each kind has, and that they are lower. Assumes nothing.
use mathlib.Core.Path.{◌≡◌}
use mathlib.Core.Bool.{true}
use Prim.Native.Nat.{ℕ, ◌≤◌, ◌<◌}
use native.Mathlib.Omega.{arith}
use native.Mathlib.Decide.{ℕ_discrete}
use borrow.Author.Tests.{lt-leb, ne_eqb, ltb-true, leb-true}
use lib.Dec.{ltb}
use lib.ListN.{length}
use Rattle.base.proofs.Below.{all_at, and_left, and_right}
use Rattle.blocks.specs.Records.{Model, node_at}
use Rattle.blocks.specs.declared.records.NodeRecord.{NodeRecord}
use Rattle.trees.specs.Trees.{operands_of, lower_ok, size_of, tree_ok, Measurable, trees_ok}

module _ (kind : ℕ) where
  pub operands_not : kind ≡ 6 → operands_of kind ≡ 1
  unfolding operands_of
  operands_not e = rw e

  pub operands_negate : kind ≡ 10 → operands_of kind ≡ 1
  unfolding operands_of
  operands_negate e = rw e

  pub operands_two : 7 ≤ kind → (kind ≡ 10 → ⊥) → operands_of kind ≡ 2
  unfolding operands_of
  operands_two h g = rw (lt-leb kind 5 (omega arith), ne_eqb kind 6 (omega arith), ne_eqb kind 10 g)

  -- a node with operands has one or two
  pub operands_some : (P : Type 0) → 6 ≤ kind → (operands_of kind ≡ 1 → P) → (7 ≤ kind → (kind ≡ 10 → ⊥) → P) → P
  operands_some P h one two =
      elim (ℕ_discrete kind 6) [
        | yes e ↦ one (operands_not e)
        | no e ↦ elim (ℕ_discrete kind 10) [ yes f ↦ one (operands_negate f) | no f ↦ two (omega arith) f ]
      ]

module _ (d : NodeRecord) (n : ℕ) (ok : lower_ok d n ≡ true) where
  pub lower_a_lem : 6 ≤ d.kind → d.a < n
  unfolding lower_ok
  lower_a_lem h =
      operands_some d.kind (d.a < n) h (λ e. ltb-true _ _ (rw e at ok))
      (λ l f. ltb-true _ _ (and_left (ltb d.a n) _ (rw (operands_two d.kind l f) at ok)))

  pub lower_b_lem : 7 ≤ d.kind → (d.kind ≡ 10 → ⊥) → d.b < n
  unfolding lower_ok
  lower_b_lem l f = ltb-true _ _ (and_right (ltb d.a n) _ (rw (operands_two d.kind l f) at ok))

module _ (M : Model) (ok : trees_ok M ≡ true) (n : ℕ) (h : n < length M.nodes) where
  tree_ok_lem : tree_ok M n ≡ true
  unfolding trees_ok
  tree_ok_lem = all_at (tree_ok M) _ n h ok

  pub lower_ok_lem : lower_ok (node_at M n) n ≡ true
  unfolding tree_ok
  lower_ok_lem = and_left (lower_ok (node_at M n) n) _ tree_ok_lem

  pub size_most : size_of M n ≤ 64
  unfolding tree_ok
  size_most = leb-true _ 64 (and_right (lower_ok (node_at M n) n) _ tree_ok_lem)

  pub measurable : Measurable M n
  unfolding trees_ok
  measurable = record { there = h; lower = lower_ok_lem; below = λ k l. all_at (tree_ok M) _ k (omega arith) ok }
