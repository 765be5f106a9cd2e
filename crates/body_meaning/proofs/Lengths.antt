-- How many nodes and statements a tree makes, and so what stands behind them in a model. Assumes nothing.
use mathlib.Core.Path.{◌≡◌, ap, ◌∙◌}
use mathlib.Core.Bool.{false}
use mathlib.Core.List.{List, ◌∷◌, ◌++◌}
use Prim.Native.Nat.{ℕ, ◌+◌, ◌≤◌}
use native.Mathlib.Omega.{arith}
use Rattle.blocks.specs.Records.{Model, statement_at}
use Rattle.blocks.specs.declared.records.NodeRecord.{NodeRecord}
use Rattle.blocks.specs.declared.records.StatementRecord.{StatementRecord}
use Rattle.grammar.specs.Grammar.{Statement, null, assign, drive, wait, ◌then◌, while, choice}
use Rattle.grammar.specs.Made.{nodes_in_body, nodes_of_body, statements_in, statements_of}
use Rattle.grammar.proofs.MadeLaws.{length_nodes_of_body, length_statements_of}
use Rattle.body_meaning.proofs.Stands.{Stands, stands_head, stands_tail, stands_left, stands_right}
use Rattle.body_meaning.proofs.Values.{no_node, StandNodes}

pub some_statements : (p : Statement) → 1 ≤ statements_in p
unfolding statements_in
some_statements null = omega arith
some_statements (assign v e) = omega arith
some_statements (drive n e f) = omega arith
some_statements (wait o u f) = omega arith
some_statements (p then q) = omega (arith, some_statements p)
some_statements (while e p) = omega arith
some_statements (choice e p q) = omega arith

module _ (M : Model) where
  abbrev pub no_statement : StatementRecord
  no_statement = record { kind = 0; a = 0; b = 0; c = 0; set = 0; zeros = false }

  -- these statements stand in the model, from number i on
  abbrev pub StandStatements : ℕ → List StatementRecord → Type 0
  StandStatements i l = Stands M.statements no_statement i l

  -- what stands behind the statements of p, and behind its nodes
  pub stands_after : {i : ℕ} (m k n : ℕ) (p : Statement) (l : List StatementRecord) → i + statements_in p ≡ n → StandStatements i (statements_of m k p ++ l) → StandStatements n l
  stands_after {i} m k n p l e s = stands_right M.statements no_statement n (statements_of m k p) l (ap (λ x. i + x) (length_statements_of m k p) ∙ e) s

  pub body_after : {m : ℕ} (p : Statement) (l : List NodeRecord) → StandNodes M m (nodes_of_body m p ++ l) → StandNodes M (m + nodes_in_body p) l
  body_after {m} p l s = stands_right M.nodes (no_node M) (m + nodes_in_body p) (nodes_of_body m p) l (ap (λ x. m + x) (length_nodes_of_body m p)) s

  pub head : {i : ℕ} {r : StatementRecord} {l : List StatementRecord} → StandStatements i (r ∷ l) → statement_at M i ≡ r
  head s = stands_head M.statements no_statement s

  pub tail : {i : ℕ} {r : StatementRecord} {l : List StatementRecord} → StandStatements i (r ∷ l) → StandStatements (i + 1) l
  tail s = stands_tail M.statements no_statement s

  pub left_part : {i : ℕ} (l l' : List StatementRecord) → StandStatements i (l ++ l') → StandStatements i l
  left_part l l' s = stands_left M.statements no_statement l l' s
