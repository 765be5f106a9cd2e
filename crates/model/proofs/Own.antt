-- The laws of `reads_own`: what it says of a node of each kind, its operands being lower. Assumes nothing.
use mathlib.Core.Path.{◌≡◌, refl, sym, ◌∙◌}
use mathlib.Core.Bool.{Bool, true, false, ◌&&◌}
use Prim.Native.Nat.{ℕ, ◌≤◌, ◌<◌}
use native.Mathlib.Omega.{arith}
use borrow.Author.Tests.{ne_eqb, eqb-true}
use lib.Dec.{eqb}
use lib.ListN.{get_or}
use Rattle.base.specs.Course.{course, up_to}
use Rattle.base.proofs.Below.{and_left, and_right}
use Rattle.base.proofs.Course.{earlier}
use Rattle.blocks.specs.Records.{Model, variable_at, node_at}
use Rattle.blocks.specs.declared.records.NodeRecord.{NodeRecord}
use Rattle.trees.specs.Trees.{operands_of, lower_ok}
use Rattle.trees.proofs.Operands.{operands_two, operands_some, lower_a_lem, lower_b_lem}
use Rattle.model.specs.Owners.{reads_by, next_reads, reads_own}
use Rattle.model.specs.Facts.{Reads}

module _ (M : Model) (p n : ℕ) where
  -- what is said of node m where those below n are known
  abbrev below : ℕ → Bool
  below m = get_or (up_to (next_reads M p) n) m false

  below_is : (m : ℕ) → m < n → below m ≡ reads_own M p m
  unfolding reads_own
  below_is m l = earlier (next_reads M p) false n m l

  reads_next : reads_own M p n ≡ reads_by M p (node_at M n) (below (node_at M n).a) (below (node_at M n).b)
  unfolding reads_own course next_reads
  reads_next = refl

  module _ (d : NodeRecord) (is : d ≡ node_at M n) where
    next : reads_own M p n ≡ reads_by M p d (below d.a) (below d.b)
    next = rw is reads_next

    pub reads_variable : d.kind ≡ 3 → reads_own M p n ≡ eqb (variable_at M d.a).process p
    unfolding reads_by
    reads_variable e = rw e at next

    -- o being how many operands it has
    module _ {o : ℕ} (k : o ≡ operands_of d.kind) (other : d.kind ≡ 3 → ⊥) where
      pub reads_none : o ≡ 0 → reads_own M p n ≡ true
      unfolding reads_by
      reads_none q = let w = sym k ∙ q in rw (ne_eqb d.kind 3 other, w) at next

      pub reads_one : o ≡ 1 → d.a < n → reads_own M p n ≡ reads_own M p d.a
      unfolding reads_by
      reads_one q l = let w = sym k ∙ q in rw (ne_eqb d.kind 3 other, w, below_is d.a l) at next

      pub reads_two : (o ≡ 0 → ⊥) → (o ≡ 1 → ⊥) → d.a < n → d.b < n → reads_own M p n ≡ (reads_own M p d.a && reads_own M p d.b)
      unfolding reads_by
      reads_two u v l g =
          rw (
            ne_eqb d.kind 3 other,
            ne_eqb (operands_of d.kind) 0 (λ x. u (k ∙ x)),
            ne_eqb (operands_of d.kind) 1 (λ x. v (k ∙ x)),
            below_is d.a l,
            below_is d.b g,
          ) at next

  -- what it says where it holds
  pub reads : lower_ok (node_at M n) n ≡ true → reads_own M p n ≡ true → Reads M p n
  reads ok own =
      let d = node_at M n in
      let both : 7 ≤ d.kind → (d.kind ≡ 10 → ⊥) → (reads_own M p d.a && reads_own M p d.b) ≡ true =
      λ l f.
      let e = operands_two d.kind l f in
      sym (reads_two d refl refl (λ q. omega arith) (λ q. omega arith) (λ q. omega arith) (lower_a_lem d n ok (omega arith)) (lower_b_lem d n ok l f)) ∙ own in
      record {
        variable = λ e. eqb-true _ p (sym (reads_variable d refl e) ∙ own);
        own_a =
            λ h.
            operands_some d.kind (reads_own M p d.a ≡ true) h
            (λ e. sym (reads_one d refl refl (λ q. omega arith) e (lower_a_lem d n ok h)) ∙ own)
            (λ l f. and_left (reads_own M p d.a) _ (both l f));
        own_b = λ l f. and_right (reads_own M p d.a) _ (both l f);
      }

-- what a call on a lower node asks, from what the function is given
pub recur : {F T : Type 0} {n t k N : ℕ} → n ≡ t → F → T → n < N → k < n → (k < t) × (F × (T × (k < N)))
recur e f t h l = (rw e at l, (f, (t, omega arith)))
