-- What the functions for expressions answer.
use Rattle.std.specs.Prelude.{◌≡◌, true, ◌||◌, List, [], ◌∷◌, ◌≢◌, ℕ, ◌+◌, ◌*◌, ◌≤◌, ◌<◌, eqb, length, Option, Some, None}
use Rattle.std.proofs.lemmas.List.Edits.{sets}
use Rattle.base.specs.Cases.{◌∣◌, ◌⇒◌}
use Rattle.grammar.specs.Tokens.{Token, word, from}
use Rattle.grammar.specs.Words.{operator_of}
use Rattle.grammar.specs.Grammar.{Expression, Says}
use Rattle.grammar.specs.Made.{node, nodes_in, nodes_of, signals_in, set_with}
use Rattle.writing.specs.Written.{node_bytes}
use Rattle.phrases.specs.declared.Awaited.{Awaited}
use Rattle.phrases.specs.declared.Awaited.TheVariants.{Leaf as Single, Group as Opening}
use Rattle.phrases.specs.Groups.{Awaits, opened}

-- An expression stands from a place on. With it there are `after` nodes, and `before` without it; the nodes are in the buffer, as far as that reaches,
-- and the set has its signals.
pub record FoundExpression (text : List ℕ) (at before next after set : ℕ) (out out' : List ℕ) : Type 0 where
  pub tree : Expression
  pub says : Says tree (from text at) (from text next)
  pub counted : after ≡ before + nodes_in tree
  pub signals : set ≡ set_with 0 (signals_in tree)
  pub written : out' ≡ sets out (12 * before) (node_bytes (nodes_of before tree))
  pub within : (at < next) × (next ≤ length text) × (before < after) × (after ≤ next)

abbrev pub NoExpression : List Token → Type 0
NoExpression s = (e : Expression) (r : List Token) → Says e s r → ⊥

-- the same with the word c after it
pub record FoundPhrase (text : List ℕ) (at c before next after set : ℕ) (out out' : List ℕ) : Type 0 where
  pub tree : Expression
  pub says : Says tree (from text at) (word c ∷ from text next)
  pub counted : after ≡ before + nodes_in tree
  pub signals : set ≡ set_with 0 (signals_in tree)
  pub written : out' ≡ sets out (12 * before) (node_bytes (nodes_of before tree))
  pub within : (at < next) × (next ≤ length text) × (before < after) × (after ≤ next)

abbrev pub NoPhrase : List Token → ℕ → Type 0
NoPhrase s c = (e : Expression) (r : List Token) → Says e s (word c ∷ r) → ⊥

-- an operator stands at a place: its node kind
pub record FoundOperator (text : List ℕ) (at kind next : ℕ) : Type 0 where
  pub code : ℕ
  pub operator : kind ≡ operator_of code
  pub some : operator_of code ≢ 0
  pub begins : from text at ≡ word code ∷ from text next
  pub within : (at < next) × (next ≤ length text)

abbrev pub NoOperator : List Token → Type 0
NoOperator s = (c : ℕ) (r : List Token) → operator_of c ≢ 0 → s ≡ word c ∷ r → ⊥

-- the signals of an expression of one node, by its kind and a
abbrev pub leaf_signals : ℕ → ℕ → List ℕ
leaf_signals kind a = eqb kind 4 || eqb kind 5 ⇒ (a ∷ []) ∣ []

-- the tokens s begin with an expression of one node, and no other
pub record FoundLeaf (text : List ℕ) (s : List Token) (kind a k next : ℕ) : Type 0 where
  pub tree : Expression
  pub says : Says tree s (from text next)
  pub alone : (e : Expression) (r : List Token) → Says e s r → (e ≡ tree) × (r ≡ from text next)
  pub one : nodes_in tree ≡ 1
  pub made : (m : ℕ) → nodes_of m tree ≡ node kind a 0 k ∷ []
  pub signals : signals_in tree ≡ leaf_signals kind a
  pub small : (kind < 65536) × (a < 64)
  pub named : (eqb kind 4 || eqb kind 5) ≡ true → a < 32

-- the tokens s begin with what opens a group: an expression there is one that ends the group
pub record FoundGroup (text : List ℕ) (s : List Token) (before : Option ℕ) (next : ℕ) : Type 0 where
  pub down : (e : Expression) (r : List Token) → Says e s r → Awaits (opened before ∷ []) e (from text next) r
  pub up : (e : Expression) (r : List Token) → Awaits (opened before ∷ []) e (from text next) r → Says e s r

-- what stands where an operand is awaited: nothing, an expression of one node, or a group that opens. It goes up to `least` or further.
abbrev pub OperandIs : List ℕ → List Token → (least : ℕ) → Option Awaited → Type 0
OperandIs text s least None = NoExpression s
OperandIs text s least (Some (Single leaf next)) = FoundLeaf text s leaf.kind leaf.a leaf.k next × (least ≤ next) × (next ≤ length text)
OperandIs text s least (Some (Opening before next)) = FoundGroup text s before next × (least ≤ next) × (next ≤ length text)
