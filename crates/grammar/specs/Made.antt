-- The nodes and statements that a text makes (document 02, item 12).
use Rattle.std.specs.Prelude.{true, List, [], ◌∷◌, ◌++◌, ℕ, ◌+◌, ◌-◌, ◌^◌}
use Rattle.std.proofs.Math.Option.{Option, none, some}
use Rattle.std.specs.Int.Bits.{bit_or}
use Rattle.blocks.specs.declared.records.NodeRecord.{NodeRecord}
use Rattle.blocks.specs.declared.records.StatementRecord.{StatementRecord}
use Rattle.fields.specs.Fields.{absent}
use Rattle.grammar.specs.Grammar.{Expression, number, logic, signal, variable, delayed, unary, binary, Statement, null, assign, drive, wait, while, choice, ◌then◌}

-- a node, and a statement; the bytes that they do not name are zero
abbrev pub node : ℕ → ℕ → ℕ → ℕ → NodeRecord
node kind a b k = record { kind = kind; a = a; b = b; k = k; zeros = true }

abbrev pub statement : ℕ → ℕ → ℕ → ℕ → ℕ → StatementRecord
statement kind a b c set = record { kind = kind; a = a; b = b; c = c; set = set; zeros = true }

-- "In expressions each literal, name, operator and whole `delayed` group makes a node of its own": how many
unfoldable pub nodes_in : Expression → ℕ
nodes_in (number n) = 1
nodes_in (logic n) = 1
nodes_in (signal n) = 1
nodes_in (variable n) = 1
nodes_in (delayed s k) = 1
nodes_in (unary kind e) = nodes_in e + 1
nodes_in (binary kind a b) = nodes_in a + nodes_in b + 1

-- the last node of an expression before which m nodes stand: its root
abbrev pub root_of : ℕ → Expression → ℕ
root_of m e = m + nodes_in e - 1

-- "numbered as the text goes, operands before their operator": the nodes of an expression before which m nodes stand
unfoldable pub nodes_of : ℕ → Expression → List NodeRecord
nodes_of m (number n) = node 1 0 0 n ∷ []
nodes_of m (logic n) = node 2 0 0 n ∷ []
nodes_of m (variable n) = node 3 n 0 0 ∷ []
nodes_of m (signal n) = node 4 n 0 0 ∷ []
nodes_of m (delayed s k) = node 5 s 0 k ∷ []
nodes_of m (unary kind e) = nodes_of m e ++ (node kind (root_of m e) 0 0 ∷ [])
nodes_of m (binary kind a b) = nodes_of m a ++ (nodes_of (m + nodes_in a) b ++ (node kind (root_of m a) (root_of (m + nodes_in a) b) 0 ∷ []))

-- the signals in an expression, as the text goes, "delayed ones too"
unfoldable pub signals_in : Expression → List ℕ
signals_in (number n) = []
signals_in (logic n) = []
signals_in (signal n) = n ∷ []
signals_in (variable n) = []
signals_in (delayed s k) = s ∷ []
signals_in (unary kind e) = signals_in e
signals_in (binary kind a b) = signals_in a ++ signals_in b

-- signals put into a set, "bit n for signal n"
unfoldable pub set_with : ℕ → List ℕ → ℕ
set_with set [] = set
set_with set (n ∷ ns) = set_with (bit_or set (2 ^ n)) ns

-- the parts of a wait, if they are there
abbrev pub nodes_in_part : Option Expression → ℕ
nodes_in_part none = 0
nodes_in_part (some e) = nodes_in e

abbrev pub nodes_of_part : ℕ → Option Expression → List NodeRecord
nodes_of_part m none = []
nodes_of_part m (some e) = nodes_of m e

-- "where b or c 65,535 means absent"
abbrev pub root_of_part : ℕ → Option Expression → ℕ
root_of_part m none = absent
root_of_part m (some e) = root_of m e

-- "a missing `on` is the signals in `until`, delayed ones too"
abbrev pub wait_set : Option (List ℕ) → Option Expression → ℕ
wait_set (some ns) u = set_with 0 ns
wait_set none (some e) = set_with 0 (signals_in e)
wait_set none none = 0

-- how many nodes a statement makes, and which, m standing before them
unfoldable pub nodes_in_body : Statement → ℕ
nodes_in_body null = 0
nodes_in_body (assign v e) = nodes_in e
nodes_in_body (drive s e f) = nodes_in e + nodes_in f
nodes_in_body (wait o u f) = nodes_in_part u + nodes_in_part f
nodes_in_body (p then q) = nodes_in_body p + nodes_in_body q
nodes_in_body (while e p) = nodes_in e + nodes_in_body p
nodes_in_body (choice e p q) = nodes_in e + nodes_in_body p + nodes_in_body q

unfoldable pub nodes_of_body : ℕ → Statement → List NodeRecord
nodes_of_body m null = []
nodes_of_body m (assign v e) = nodes_of m e
nodes_of_body m (drive s e f) = nodes_of m e ++ nodes_of (m + nodes_in e) f
nodes_of_body m (wait o u f) = nodes_of_part m u ++ nodes_of_part (m + nodes_in_part u) f
nodes_of_body m (p then q) = nodes_of_body m p ++ nodes_of_body (m + nodes_in_body p) q
nodes_of_body m (while e p) = nodes_of m e ++ nodes_of_body (m + nodes_in e) p
nodes_of_body m (choice e p q) = nodes_of m e ++ (nodes_of_body (m + nodes_in e) p ++ nodes_of_body (m + nodes_in e + nodes_in_body p) q)

-- "each simple statement makes one statement; `if` makes unless, list, go to, list, null; `while` makes unless, list, go to, null": how many
unfoldable pub statements_in : Statement → ℕ
statements_in null = 1
statements_in (assign v e) = 1
statements_in (drive s e f) = 1
statements_in (wait o u f) = 1
statements_in (p then q) = statements_in p + statements_in q
statements_in (while e p) = statements_in p + 3
statements_in (choice e p q) = statements_in p + statements_in q + 3

-- the statements of a tree before which m nodes and i statements stand. `unless` has the condition's root and goes past the list and its `go to`;
-- the `go to` of `while` goes back to `unless`, that of `if` goes to the null.
unfoldable pub statements_of : ℕ → ℕ → Statement → List StatementRecord
statements_of m i null = statement 0 0 0 0 0 ∷ []
statements_of m i (assign v e) = statement 1 v (root_of m e) 0 0 ∷ []
statements_of m i (drive s e f) = statement 2 s (root_of m e) (root_of (m + nodes_in e) f) 0 ∷ []
statements_of m i (wait o u f) = statement 5 0 (root_of_part m u) (root_of_part (m + nodes_in_part u) f) (wait_set o u) ∷ []
statements_of m i (p then q) = statements_of m i p ++ statements_of (m + nodes_in_body p) (i + statements_in p) q
statements_of m i (while e p) =
    statement 3 (i + statements_in p + 2) (root_of m e) 0 0
    ∷ (statements_of (m + nodes_in e) (i + 1) p ++ (statement 4 i 0 0 0 ∷ (statement 0 0 0 0 0 ∷ [])))
statements_of m i (choice e p q) =
    statement 3 (i + statements_in p + 2) (root_of m e) 0 0
    ∷ (statements_of (m + nodes_in e) (i + 1) p ++ (statement 4 (i + statements_in p + statements_in q + 2) 0 0 0
    ∷ (statements_of (m + nodes_in e + nodes_in_body p) (i + statements_in p + 2) q ++ (statement 0 0 0 0 0 ∷ []))))

-- the nodes and statements of a body
abbrev pub made_nodes : Statement → List NodeRecord
made_nodes p = nodes_of_body 0 p

abbrev pub made_statements : Statement → List StatementRecord
made_statements p = statements_of 0 0 p
