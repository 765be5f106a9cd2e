-- What the functions for the parts of a wait answer.
use Rattle.std.specs.Prelude.{◌≡◌, List, ◌++◌, ℕ, ◌+◌, ◌*◌, ◌≤◌, ◌<◌, length}
use Rattle.std.proofs.Math.Option.{Option, none}
use Rattle.std.proofs.lemmas.List.Edits.{sets}
use Rattle.grammar.specs.Tokens.{Token, from, NoWord}
use Rattle.grammar.specs.Words.{comma}
use Rattle.grammar.specs.Grammar.{Expression, SaysSignals, SaysFor, SaysUntil}
use Rattle.grammar.specs.Made.{set_with, nodes_in_part, nodes_of_part, root_of_part, wait_set}
use Rattle.writing.specs.Written.{node_bytes}

-- signals with commas between stand from a place on, as many as there are
pub record FoundSignals (text : List ℕ) (at next set : ℕ) : Type 0 where
  pub signals : List ℕ
  pub says : SaysSignals signals (from text at) (from text next)
  pub ends : NoWord (from text next) comma
  pub collected : set ≡ set_with 0 signals
  pub within : (at < next) × (next ≤ length text)

abbrev pub NoSignals : List Token → Type 0
NoSignals s = (ns : List ℕ) (r : List Token) → NoWord r comma → SaysSignals ns s r → ⊥

-- `for e ;` or the semicolon alone
pub record FoundFor (text : List ℕ) (at m next m' c : ℕ) (nodes nodes' : List ℕ) : Type 0 where
  pub time : Option Expression
  pub says : SaysFor time (from text at) (from text next)
  pub counted : m' ≡ m + nodes_in_part time
  pub root : c ≡ root_of_part m time
  pub written : nodes' ≡ sets nodes (12 * m) (node_bytes (nodes_of_part m time))
  pub within : (at < next) × (next ≤ length text) × (m' ≤ next) × (c < 65536)

abbrev pub NoFor : List Token → Type 0
NoFor s = (f : Option Expression) (r : List Token) → SaysFor f s r → ⊥

-- `until e` and `for e`, each if it is there, and the semicolon; the set is that of a wait without `on`
pub record FoundUntil (text : List ℕ) (at m next m' b c set : ℕ) (nodes nodes' : List ℕ) : Type 0 where
  pub condition : Option Expression
  pub time : Option Expression
  pub says : SaysUntil condition time (from text at) (from text next)
  pub counted : m' ≡ m + (nodes_in_part condition + nodes_in_part time)
  pub first : b ≡ root_of_part m condition
  pub second : c ≡ root_of_part (m + nodes_in_part condition) time
  pub collected : set ≡ wait_set none condition
  pub written : nodes' ≡ sets nodes (12 * m) (node_bytes (nodes_of_part m condition ++ nodes_of_part (m + nodes_in_part condition) time))
  pub within : (at < next) × (next ≤ length text) × (m' ≤ next) × (b < 65536) × (c < 65536)

abbrev pub NoUntil : List Token → Type 0
NoUntil s = (u f : Option Expression) (r : List Token) → SaysUntil u f s r → ⊥
