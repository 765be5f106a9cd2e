-- The laws of rule 6: a node's tree from the trees of its operands. Assumes nothing.
use mathlib.Core.Path.{◌≡◌, refl, sym, ◌∙◌}
use mathlib.Core.Bool.{true, ◌&&◌}
use Prim.Native.Nat.{ℕ, ◌+◌, ◌≤◌, ◌<◌}
use native.Mathlib.Omega.{arith}
use borrow.Author.Tests.{leb-true, ltb-true, ne_eqb}
use lib.Dec.{ltb}
use lib.ListN.{get_or}
use Rattle.base.specs.Course.{up_to, course}
use Rattle.base.proofs.Below.{and_left, and_right}
use Rattle.base.proofs.Course.{operand}
use Rattle.blocks.specs.Records.{Model, node_at}
use Rattle.blocks.specs.declared.records.NodeRecord.{NodeRecord}
use Rattle.trees.specs.Trees.{operands_of, lower_ok, size_by, next_size, size_of, tree_ok, Measurable}

-- node n, whose tree is worked out
module _ {M : Model} {n : ℕ} (h : Measurable M n) where
  -- a node below is measurable, and its tree has at most 64 nodes
  pub measurable : {k : ℕ} → k < n → Measurable M k
  unfolding tree_ok
  measurable {k} l =
      record {
        there = omega (arith, h.there);
        lower = and_left _ _ (h.below k l);
        below = λ j g. h.below j (omega arith);
      }

  pub size_most : {k : ℕ} → k < n → size_of M k ≤ 64
  unfolding tree_ok
  size_most {k} l = leb-true _ 64 (and_right (lower_ok (node_at M k) k) _ (h.below k l))

-- what a call on a lower node asks, from what the function is given
pub recur : {M : Model} {n t k : ℕ} → n ≡ t → Measurable M n → k < n → (k < t) × Measurable M k
recur e h l = (rw e at l, measurable h l)

-- d being its record and o how many operands it has
module _ {M : Model} {n : ℕ} (h : Measurable M n) {d : NodeRecord} (e : d ≡ node_at M n) {o : ℕ} (k : o ≡ operands_of d.kind) where
  lower : lower_ok d n ≡ true
  lower = rw e h.lower

  -- its operands are lower
  pub lower_one : o ≡ 1 → d.a < n
  unfolding lower_ok
  lower_one q = let w = sym k ∙ q in ltb-true _ _ (rw w at lower)

  lower_both : (o ≡ 0 → ⊥) → (o ≡ 1 → ⊥) → (ltb d.a n && ltb d.b n) ≡ true
  unfolding lower_ok
  lower_both p q = rw (ne_eqb (operands_of d.kind) 0 (λ x. p (k ∙ x)), ne_eqb (operands_of d.kind) 1 (λ x. q (k ∙ x))) at lower

  pub lower_first : (o ≡ 0 → ⊥) → (o ≡ 1 → ⊥) → d.a < n
  lower_first p q = ltb-true _ _ (and_left _ _ (lower_both p q))

  pub lower_second : (o ≡ 0 → ⊥) → (o ≡ 1 → ⊥) → d.b < n
  lower_second p q = ltb-true _ _ (and_right (ltb d.a n) _ (lower_both p q))

  size_by_lem : (p q : ℕ) → p ≡ get_or (up_to (next_size M) n) d.a 0 → q ≡ get_or (up_to (next_size M) n) d.b 0 → size_by d.kind p q ≡ size_of M n
  unfolding size_of next_size course
  size_by_lem p q hp hq = cc

  -- its tree from theirs
  pub size_none : o ≡ 0 → 1 ≡ size_of M n
  unfolding size_by
  size_none q = let w = sym k ∙ q in rw w at (size_by_lem _ _ refl refl)

  pub size_one : {p : ℕ} → o ≡ 1 → p ≡ size_of M d.a → 1 + p ≡ size_of M n
  unfolding size_by size_of
  size_one {p} q hp = let w = sym k ∙ q in rw w at (size_by_lem p _ (operand (next_size M) 0 (lower_one q) hp) refl)

  pub size_two : {p q : ℕ} → (o ≡ 0 → ⊥) → (o ≡ 1 → ⊥) → p ≡ size_of M d.a → q ≡ size_of M d.b → 1 + p + q ≡ size_of M n
  unfolding size_by size_of
  size_two {p} {q} u v hp hq =
      rw (ne_eqb (operands_of d.kind) 0 (λ x. u (k ∙ x)), ne_eqb (operands_of d.kind) 1 (λ x. v (k ∙ x))) at
      (size_by_lem p q (operand (next_size M) 0 (lower_first u v) hp) (operand (next_size M) 0 (lower_second u v) hq))
