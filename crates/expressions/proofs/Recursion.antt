-- The recursion of `eval` over the operands of a node: what each call asks, and what is returned. Assumes nothing.
use mathlib.Core.Path.{◌≡◌}
use mathlib.Core.List.{List}
use Prim.Native.Nat.{ℕ, ◌≤◌, ◌<◌}
use native.Mathlib.Omega.{arith}
use lib.ListN.{length}
use Rattle.blocks.specs.Records.{model_of, node_at}
use Rattle.blocks.specs.declared.records.NodeRecord.{NodeRecord}
use Rattle.trees.specs.Trees.{type_of}
use Rattle.model.specs.Facts.{NodeFits}
use Rattle.rules.specs.Values.{Value}
use Rattle.rules.specs.Evaluation.{Environment, value_by, eval_of}
use Rattle.rules.proofs.Evaluation.{leaf, unary, binary}
use Rattle.expressions.specs.Reading.{Runs}

-- what a call on node n is given
abbrev pub Call : List ℕ → List ℕ → ℕ → Type 0
Call m index n = Runs m index × (n < length (model_of m).nodes)

-- node n has the record d; t is the measure
module _ {m index : List ℕ} {n t : ℕ} (call : (n ≡ t) × Call m index n) {d : NodeRecord} (node : d ≡ node_at (model_of m) n) where
  fits : NodeFits (model_of m) n
  fits = call.1.0.facts.node n call.1.1

  lower : {k : ℕ} → k < n → (k < t) × Call m index k
  lower l = (omega arith, (call.1.0, omega arith))

  pub signal_below : 4 ≤ d.kind → d.kind ≤ 5 → d.a < 32
  signal_below l k = rw node (omega (arith, fits.signal (rw node at l) (rw node at k), call.1.0.facts.totals.signals))

  module _ (e : Environment) {v : Value} {ty : ℕ} (type : ty ≡ type_of (model_of m) n) where
    pub leaf_value : ((p q : Value) → v ≡ value_by e n d ty p q) → v ≡ eval_of (model_of m) e n
    leaf_value = leaf (model_of m) e n fits d ty v node type

    pub unary_value : {p : Value} → p ≡ eval_of (model_of m) e d.a → ((q : Value) → v ≡ value_by e n d ty p q) → v ≡ eval_of (model_of m) e n
    unary_value {p} = unary (model_of m) e n fits d ty v node type p

    pub binary_value : {p q : Value} → p ≡ eval_of (model_of m) e d.a → q ≡ eval_of (model_of m) e d.b → v ≡ value_by e n d ty p q → v ≡ eval_of (model_of m) e n
    binary_value {p} {q} = binary (model_of m) e n fits d ty v node type p q
