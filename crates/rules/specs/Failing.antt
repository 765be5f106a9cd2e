-- The node at fault, by the order of evaluation: "the number of the first node that failed in the order of evaluation" (document 02,
-- item 3).
use Rattle.std.specs.Prelude.{◌≡◌, Bool, true, false, ◌⊎◌, List, [], ◌∷◌, ◌++◌, ℕ, ◌<◌, ltb, length, get_or, Ok, Err}
use Rattle.base.specs.Below.{All}
use Rattle.base.specs.Cases.{◌∣◌, ◌⇒◌, ◌is◌⇒◌}
use Rattle.base.specs.Course.{course}
use Rattle.blocks.specs.Records.{Model, node_at}
use Rattle.trees.specs.Trees.{type_of}
use Rattle.rules.specs.declared.value.Failure.{Failure}
use Rattle.rules.specs.Values.{Value}
use Rattle.rules.specs.Evaluation.{Environment, decided_by, eval_of}

-- b of node n is not evaluated: there is none, or "boolean `and` and `or` skip b when a decides", or a failed
abbrev pub leaves_b : Model → Environment → ℕ → Bool
leaves_b M e n =
    (node_at M n).kind is 6 ⇒ true
    ∣ (node_at M n).kind is 7 ⇒ decided_by (type_of M n) (eval_of M e (node_at M n).a) 0
    ∣ (node_at M n).kind is 8 ⇒ decided_by (type_of M n) (eval_of M e (node_at M n).a) 1
    ∣ (node_at M n).kind is 10 ⇒ true
    ∣ false

-- "a before b": the nodes of a, p, then those of b, q, then node n itself
unfoldable pub order_by : Model → Environment → ℕ → List ℕ → List ℕ → List ℕ
order_by M e n p q = ltb (node_at M n).kind 6 ⇒ (n ∷ []) ∣ (p ++ (leaves_b M e n ⇒ [] ∣ q) ++ (n ∷ []))

unfoldable pub next_order : Model → Environment → ℕ → List (List ℕ) → List ℕ
next_order M e n orders = order_by M e n (get_or orders (node_at M n).a []) (get_or orders (node_at M n).b [])

-- the nodes of which node n's value is worked out, itself the last, in the order of evaluation
unfoldable pub evaluation_order : Model → Environment → ℕ → List ℕ
evaluation_order M e n = course (next_order M e) n

-- node n has a value
abbrev pub HasValue : Model → Environment → ℕ → Type 0
HasValue M e n = (x : ℕ) × (eval_of M e n ≡ Ok x)

-- the faults that an expression can have, "an integer out of range" and "A divisor of 0", at a node of the model
abbrev pub ExpressionFails : Model → Failure → Type 0
ExpressionFails M r = ((r.fault ≡ 1) ⊎ (r.fault ≡ 4)) × (r.node < length M.nodes)

-- the failure of node n names the first node that failed: each before it has a value, and it has this failure
pub record AtFault (M : Model) (e : Environment) (n : ℕ) (r : Failure) : Type 0 where
  pub expression : ExpressionFails M r
  pub before : List ℕ
  pub after : List ℕ
  pub order : evaluation_order M e n ≡ before ++ (r.node ∷ after)
  pub valued : All (HasValue M e) before
  pub fails : eval_of M e r.node ≡ Err r

-- what a value of node n says of the nodes: none of them failed, or which was the first
abbrev pub FaultNamed : Model → Environment → ℕ → Value → Type 0
FaultNamed M e n (Ok x) = All (HasValue M e) (evaluation_order M e n)
FaultNamed M e n (Err r) = AtFault M e n r
