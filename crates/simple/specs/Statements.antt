-- What the functions for statements answer.
use Rattle.std.specs.Prelude.{◌≡◌, Option, MatchOption, List, ℕ, ◌+◌, ◌*◌, ◌≤◌, ◌<◌, length}
use Rattle.std.proofs.lemmas.List.Edits.{sets}
use Rattle.grammar.specs.Tokens.{Token, from}
use Rattle.simple.specs.declared.Made.{Made}
use Rattle.grammar.specs.Grammar.{Statement, one, Spells}
use Rattle.grammar.specs.Made.{nodes_in_body, nodes_of_body, statements_in, statements_of}
use Rattle.writing.specs.Written.{node_bytes, statement_bytes}

-- The tokens s are those of a statement with at most so many levels, and then those from `next` on. m nodes and i statements stand before it, m' and i' with it;
-- its nodes and statements are in the two buffers, as far as these reach.
pub record FoundStatement (text : List ℕ) (s : List Token) (at room m i next m' i' : ℕ) (nodes nodes' out out' : List ℕ) : Type 0 where
  pub tree : Statement
  pub spells : Spells one room tree s (from text next)
  pub nodes_counted : m' ≡ m + nodes_in_body tree
  pub statements_counted : i' ≡ i + statements_in tree
  pub nodes_written : nodes' ≡ sets nodes (12 * m) (node_bytes (nodes_of_body m tree))
  pub written : out' ≡ sets out (12 * i) (statement_bytes (statements_of m i tree))
  pub within : (at < next) × (next ≤ length text) × (m' ≤ next) × (i' < next)

abbrev pub NoStatement : List Token → ℕ → Type 0
NoStatement s room = (p : Statement) (r : List Token) → Spells one room p s r → ⊥

-- whether the tokens s begin with a statement that has at most so many levels
abbrev pub AnswerStatement : List ℕ → List Token → (at room m i : ℕ) → Option Made → (nodes nodes' out out' : List ℕ) → Type 0
AnswerStatement text s at room m i made nodes nodes' out out' =
    MatchOption made (NoStatement s room) (λ r. FoundStatement text s at room m i r.next r.nodes r.statements nodes nodes' out out')

-- the same where the statement has no level
abbrev pub AnswerSimple : List ℕ → List Token → (at m i : ℕ) → Option Made → (nodes nodes' out out' : List ℕ) → Type 0
AnswerSimple text s at m i made nodes nodes' out out' = (room : ℕ) → AnswerStatement text s at room m i made nodes nodes' out out'
