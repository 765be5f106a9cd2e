-- An expression's tree has the type and the value of its root among the nodes that it makes: by induction over the tree. Assumes nothing.
use mathlib.Core.Path.{◌≡◌, refl, ap, ◌∙◌}
use mathlib.Core.Bool.{false}
use mathlib.Core.List.{List, [], ◌∷◌, ◌++◌}
use Prim.Native.Nat.{ℕ, ◌+◌, ◌-◌, ◌≤◌, ◌<◌}
use native.Mathlib.Omega.{arith}
use lib.ListN.{get_or}
use Rattle.std.specs.Prelude.{Ok}
use Rattle.base.specs.Course.{up_to, course}
use Rattle.base.proofs.Course.{earlier}
use Rattle.blocks.specs.Records.{Model, node_at}
use Rattle.blocks.specs.declared.records.NodeRecord.{NodeRecord}
use Rattle.trees.specs.Trees.{mistyped, type_by, next_type, type_of}
use Rattle.rules.specs.Values.{Value}
use Rattle.rules.specs.Evaluation.{Environment, value_by, next_value, eval_of}
use Rattle.grammar.specs.Tokens.{Token}
use Rattle.grammar.specs.Words.{operator_of}
use Rattle.grammar.specs.Grammar.{Expression, unary, binary, Says, says_number, says_logic, says_signal, says_variable, says_delayed, says_not, says_negate, says_binary}
use Rattle.grammar.proofs.MadeLaws.{length_nodes_of, nodes_in_some}
use Rattle.grammar.specs.Made.{node, nodes_in, root_of, nodes_of}
use Rattle.body_meaning.specs.Values.{operator, type_in, value_in}
use Rattle.body_meaning.proofs.Operators.{operator_high, operator_type, operator_value}
use Rattle.body_meaning.proofs.Stands.{Stands, stands_head, stands_left, stands_right}

module _ (M : Model) where
  -- the node n, whose record is d, by those before it
  abbrev type_below : ℕ → ℕ → ℕ
  type_below n a = get_or (up_to (next_type M) n) a mistyped

  abbrev value_below : Environment → ℕ → ℕ → Value
  value_below env n a = get_or (up_to (next_value M env) n) a (Ok 0)

  type_at : (n : ℕ) (d : NodeRecord) → node_at M n ≡ d → type_of M n ≡ type_by M d (type_below n d.a) (type_below n d.b)
  unfolding type_of course next_type
  type_at n d e = rw e

  value_at_lem : (env : Environment) (n : ℕ) (d : NodeRecord) → node_at M n ≡ d
      → eval_of M env n ≡ value_by env n d (type_of M n) (value_below env n d.a) (value_below env n d.b)
  unfolding eval_of course next_value
  value_at_lem env n d e = rw e

  -- root n has the expression's type, and its value, m nodes standing before the expression
  pub record Same (m : ℕ) (e : Expression) (n : ℕ) : Type 0 where
    pub type : type_of M n ≡ type_in M e
    pub value : (env : Environment) → eval_of M env n ≡ value_in M env m e

  below_type : {m a n : ℕ} {e : Expression} → Same m e a → a < n → type_below n a ≡ type_in M e
  unfolding type_of
  below_type {a} {n} s l = earlier (next_type M) mistyped n a l ∙ s.type

  below_value : {m a n : ℕ} {e : Expression} → Same m e a → a < n → (env : Environment) → value_below env n a ≡ value_in M env m e
  unfolding eval_of
  below_value {a} {n} s l env = earlier (next_value M env) (Ok 0) n a l ∙ s.value env

  abbrev pub no_node : NodeRecord
  no_node = record { kind = 0; a = 0; b = 0; k = 0; zeros = false }

  -- these nodes stand in the model, from number m on
  abbrev pub StandNodes : ℕ → List NodeRecord → Type 0
  StandNodes m l = Stands M.nodes no_node m l

  -- the one node that is left stands at n
  node_here : {m : ℕ} {d : NodeRecord} (n : ℕ) → m ≡ n → StandNodes m (d ∷ []) → node_at M n ≡ d
  node_here n e s = rw e at (stands_head M.nodes no_node s)

  pub behind : {m : ℕ} (e : Expression) (l : List NodeRecord) → StandNodes m (nodes_of m e ++ l) → StandNodes (m + nodes_in e) l
  behind {m} e l s = stands_right M.nodes no_node (m + nodes_in e) (nodes_of m e) l (ap (λ k. m + k) (length_nodes_of m e)) s

  leaf : (m n : ℕ) (e : Expression) (d : NodeRecord) → node_at M n ≡ d → ((p q : ℕ) → type_by M d p q ≡ type_in M e)
      → ((env : Environment) (ty : ℕ) (p q : Value) → value_by env n d ty p q ≡ value_in M env m e) → Same m e n
  leaf m n e d here type value = record { type = type_at n d here ∙ type _ _; value = λ env. value_at_lem env n d here ∙ value env _ _ _ }

  unary_same : (m kind : ℕ) (e : Expression) → ((a p q : ℕ) → type_by M (node kind a 0 0) p q ≡ type_by M (operator kind) p mistyped)
      → ((env : Environment) (n ty a : ℕ) (p q : Value) → value_by env n (node kind a 0 0) ty p q ≡ value_by env n (operator kind) ty p (Ok 0))
      → Same m e (root_of m e) → StandNodes m (nodes_of m (unary kind e)) → Same m (unary kind e) (root_of m (unary kind e))
  unfolding nodes_of nodes_in type_in value_in
  unary_same m kind e type value s st =
      let n = m + (nodes_in e + 1) - 1 in
      let here : node_at M n ≡ node kind (root_of m e) 0 0 = node_here n (omega arith) (behind e _ st) in
      let lower : root_of m e < n = omega (arith, nodes_in_some e) in
      let typed : type_of M n ≡ type_by M (operator kind) (type_in M e) mistyped = type_at n _ here ∙ (type _ _ _ ∙ rw (below_type s lower)) in
      record { type = typed; value = λ env. value_at_lem env n _ here ∙ (value env n _ _ _ _ ∙ rw (typed, below_value s lower env)) }

  binary_same : (m kind : ℕ) (a b : Expression) → 6 ≤ kind → Same m a (root_of m a) → Same (m + nodes_in a) b (root_of (m + nodes_in a) b)
      → StandNodes m (nodes_of m (binary kind a b)) → Same m (binary kind a b) (root_of m (binary kind a b))
  unfolding nodes_of nodes_in type_in value_in
  binary_same m kind a b h s t st =
      let n = m + (nodes_in a + nodes_in b + 1) - 1 in
      let here : node_at M n ≡ node kind (root_of m a) (root_of (m + nodes_in a) b) 0 = node_here n (omega arith) (behind b _ (behind a _ st)) in
      let lower : root_of m a < n = omega (arith, nodes_in_some a) in
      let lower_b_lem : root_of (m + nodes_in a) b < n = omega (arith, nodes_in_some b) in
      let typed : type_of M n ≡ type_by M (operator kind) (type_in M a) (type_in M b) =
      type_at n _ here ∙ (operator_type kind _ _ h M _ _ ∙ rw (below_type s lower, below_type t lower_b_lem)) in
      record {
        type = typed;
        value = λ env. value_at_lem env n _ here ∙ (operator_value kind _ _ h env n _ _ _ ∙ rw (typed, below_value s lower env, below_value t lower_b_lem env));
      }

  -- The root of an expression whose nodes stand from number m on is the expression's.
  pub same : {e : Expression} {s r : List Token} → Says e s r → (m : ℕ) → StandNodes m (nodes_of m e) → Same m e (root_of m e)
  unfolding nodes_of nodes_in type_in value_in type_by value_by
  same says_number m st = leaf m _ _ _ (node_here _ (omega arith) st) (λ p q. refl) (λ env ty p q. refl)
  same says_logic m st = leaf m _ _ _ (node_here _ (omega arith) st) (λ p q. refl) (λ env ty p q. refl)
  same says_signal m st = leaf m _ _ _ (node_here _ (omega arith) st) (λ p q. refl) (λ env ty p q. refl)
  same says_variable m st = leaf m _ _ _ (node_here _ (omega arith) st) (λ p q. refl) (λ env ty p q. refl)
  same (says_delayed h) m st = leaf m _ _ _ (node_here _ (omega arith) st) (λ p q. refl) (λ env ty p q. refl)
  same (says_not {e} x) m st =
      unary_same m 6 e (λ a p q. refl) (λ env n ty a p q. refl) (same x m (stands_left M.nodes no_node (nodes_of m e) _ st)) st
  same (says_negate {e} x) m st =
      unary_same m 10 e (λ a p q. refl) (λ env n ty a p q. refl) (same x m (stands_left M.nodes no_node (nodes_of m e) _ st)) st
  same (says_binary {c} {a} {b} h x y) m st =
      binary_same m (operator_of c) a b (omega (arith, operator_high c h)) (same x m (stands_left M.nodes no_node (nodes_of m a) _ st))
      (same y (m + nodes_in a) (stands_left M.nodes no_node (nodes_of (m + nodes_in a) b) _ (behind a _ st))) st
