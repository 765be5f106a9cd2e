-- The node kinds of operators, and what a node of such a kind rests on. Assumes nothing.
use mathlib.Core.Path.{◌≡◌, refl}
use mathlib.Core.Logic.{◌≢◌}
use Prim.Native.Nat.{ℕ, ◌≤◌}
use native.Mathlib.Omega.{arith}
use borrow.Author.Tests.{ne_eqb}
use lib.Dec.{eqb}
use Rattle.base.specs.Cases.{◌∣◌, ◌is◌⇒◌}
use Rattle.base.proofs.Cases.{by_test}
use Rattle.blocks.specs.Records.{Model}
use Rattle.trees.specs.Trees.{type_by}
use Rattle.rules.specs.Values.{Value}
use Rattle.rules.specs.Evaluation.{Environment, value_by}
use Rattle.grammar.specs.Words.{operator_of}
use Rattle.grammar.specs.Made.{node}
use Rattle.body_meaning.specs.Values.{operator}

-- an operator's node kind is no leaf's
case_high : (c w k x : ℕ) → 7 ≤ k → (x ≢ 0 → 7 ≤ x) → (c is w ⇒ k ∣ x) ≢ 0 → 7 ≤ (c is w ⇒ k ∣ x)
case_high c w k x h g = by_test (λ y. y ≢ 0 → 7 ≤ y) (eqb c w) k x (λ t n. h) (λ t. g)

pub operator_high : (c : ℕ) → operator_of c ≢ 0 → 7 ≤ operator_of c
unfolding operator_of
operator_high c =
    case_high c _ 7 _ (omega arith)
    (case_high c _ 8 _ (omega arith)
    (case_high c _ 9 _ (omega arith)
    (case_high c _ 11 _ (omega arith)
    (case_high c _ 12 _ (omega arith)
    (case_high c _ 13 _ (omega arith)
    (case_high c _ 14 _ (omega arith)
    (case_high c _ 15 _ (omega arith)
    (case_high c _ 16 _ (omega arith)
    (case_high c _ 17 _ (omega arith)
    (case_high c _ 18 _ (omega arith) (λ n. absurd (n refl))))))))))))

-- from kind 6 on, a node's type and value rest on its kind and its operands alone
module _ (kind a b : ℕ) (h : 6 ≤ kind) where
  pub operator_type : (M : Model) (p q : ℕ) → type_by M (node kind a b 0) p q ≡ type_by M (operator kind) p q
  unfolding type_by
  operator_type M p q =
      rw (ne_eqb kind 1 (omega arith), ne_eqb kind 2 (omega arith), ne_eqb kind 3 (omega arith), ne_eqb kind 4 (omega arith), ne_eqb kind 5 (omega arith))

  pub operator_value : (env : Environment) (n ty : ℕ) (p q : Value) → value_by env n (node kind a b 0) ty p q ≡ value_by env n (operator kind) ty p q
  unfolding value_by
  operator_value env n ty p q =
      rw (ne_eqb kind 1 (omega arith), ne_eqb kind 2 (omega arith), ne_eqb kind 3 (omega arith), ne_eqb kind 4 (omega arith), ne_eqb kind 5 (omega arith))
