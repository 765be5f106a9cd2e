-- The nodes that a text makes have kinds below 256, and zeros in the bytes that they do not name.
-- Assumes nothing.
use mathlib.Core.Path.{◌≡◌, refl}
use mathlib.Core.Bool.{Bool, true, false}
use mathlib.Core.List.{List}
use mathlib.Core.Option.{Option}
use Prim.Native.Nat.{ℕ, ◌+◌, ◌<◌}
use native.Mathlib.Omega.{arith}
use lib.Dec.{eqb}
use Rattle.base.specs.Below.{All}
use Rattle.base.specs.Cases.{◌∣◌, ◌⇒◌}
use Rattle.base.proofs.All.{all_append}
use Rattle.blocks.specs.declared.records.NodeRecord.{NodeRecord}
use Rattle.blocks.specs.declared.records.StatementRecord.{StatementRecord}
use Rattle.grammar.specs.Tokens.{Token}
use Rattle.grammar.specs.Words.{and_word, or_word, xor_word, plus, minus, equals, less, times, over, mod_word, rem_word, operator_of}
use Rattle.grammar.specs.Grammar.{Expression, Statement, null, assign, drive, wait, while, choice, ◌then◌, Says, says_number, says_logic, says_signal, says_variable, says_delayed, says_not, says_negate, says_binary, SaysFor, no_for, with_for, SaysUntil, no_until, with_until, SaysOn, no_on, with_on, Part, Spells, spells_null, spells_assign, spells_drive, spells_wait, spells_while, spells_choice, last, more, Sentence}
use Rattle.grammar.specs.Made.{nodes_in, nodes_of, nodes_in_part, nodes_of_part, nodes_in_body, nodes_of_body, statements_in, statements_of, made_nodes}

-- a record whose kind is a byte, and which has no other bytes than it names
abbrev pub NodeFits : NodeRecord → Type 0
NodeFits d = (d.kind < 256) × (d.zeros ≡ true)

abbrev pub StatementFits : StatementRecord → Type 0
StatementFits s = (s.kind < 256) × (s.zeros ≡ true)

low : (b : Bool) {x y : ℕ} → x < 256 → y < 256 → (b ⇒ x ∣ y) < 256
low true h k = h
low false h k = k

operator_below : (c : ℕ) → operator_of c < 256
unfolding operator_of
operator_below c =
    low (eqb c and_word) (omega arith) (low (eqb c or_word) (omega arith) (low (eqb c xor_word) (omega arith) (low (eqb c plus) (omega arith)
    (low (eqb c minus) (omega arith) (low (eqb c equals) (omega arith) (low (eqb c less) (omega arith) (low (eqb c times) (omega arith)
    (low (eqb c over) (omega arith) (low (eqb c mod_word) (omega arith) (low (eqb c rem_word) (omega arith) (omega arith)))))))))))

-- the nodes of an expression that tokens spell, however many stand before them
expression_fits : {e : Expression} {s r : List Token} → Says e s r → (m : ℕ) → All NodeFits (nodes_of m e)
unfolding nodes_of
expression_fits says_number m = ((omega arith, refl), tt)
expression_fits says_logic m = ((omega arith, refl), tt)
expression_fits says_signal m = ((omega arith, refl), tt)
expression_fits says_variable m = ((omega arith, refl), tt)
expression_fits (says_delayed h) m = ((omega arith, refl), tt)
expression_fits (says_not {e = e} p) m = all_append NodeFits (nodes_of m e) _ (expression_fits p m) ((omega arith, refl), tt)
expression_fits (says_negate {e = e} p) m = all_append NodeFits (nodes_of m e) _ (expression_fits p m) ((omega arith, refl), tt)
expression_fits (says_binary {c = c} {a = a} {b = b} n p q) m =
    all_append NodeFits (nodes_of m a) _ (expression_fits p m)
    (all_append NodeFits (nodes_of (m + nodes_in a) b) _ (expression_fits q (m + nodes_in a)) ((operator_below c, refl), tt))

-- those of the parts of a wait
for_fits : {f : Option Expression} {s r : List Token} → SaysFor f s r → (m : ℕ) → All NodeFits (nodes_of_part m f)
for_fits no_for m = tt
for_fits (with_for p) m = expression_fits p m

until_fits : {u f : Option Expression} {s r : List Token} → SaysUntil u f s r → (m n : ℕ) → All NodeFits (nodes_of_part m u) × All NodeFits (nodes_of_part n f)
until_fits (no_until p) m n = (tt, for_fits p n)
until_fits (with_until p q) m n = (expression_fits p m, for_fits q n)

on_fits : {o : Option (List ℕ)} {u f : Option Expression} {s r : List Token} → SaysOn o u f s r → (m n : ℕ)
    → All NodeFits (nodes_of_part m u) × All NodeFits (nodes_of_part n f)
on_fits (no_on p) m n = until_fits p m n
on_fits (with_on _ p) m n = until_fits p m n

-- those of a body
body_fits : {k : Part} {d : ℕ} {p : Statement} {s r : List Token} → Spells k d p s r → (m : ℕ) → All NodeFits (nodes_of_body m p)
unfolding nodes_of_body
body_fits spells_null m = tt
body_fits (spells_assign e) m = expression_fits e m
body_fits (spells_drive {e = e} p q) m = all_append NodeFits (nodes_of m e) _ (expression_fits p m) (expression_fits q (m + nodes_in e))
body_fits (spells_wait {u = u} w) m =
    let (a, b) = on_fits w m (m + nodes_in_part u) in
    all_append NodeFits (nodes_of_part m u) _ a b
body_fits (spells_while {e = e} t p) m = all_append NodeFits (nodes_of m e) _ (expression_fits t m) (body_fits p (m + nodes_in e))
body_fits (spells_choice {e = e} {p = p} t h g) m =
    all_append NodeFits (nodes_of m e) _ (expression_fits t m)
    (all_append NodeFits (nodes_of_body (m + nodes_in e) p) _ (body_fits h (m + nodes_in e)) (body_fits g (m + nodes_in e + nodes_in_body p)))
body_fits (last p) m = body_fits p m
body_fits (more {p = p} h g) m = all_append NodeFits (nodes_of_body m p) _ (body_fits h m) (body_fits g (m + nodes_in_body p))

pub nodes_fit : (text : List ℕ) (p : Statement) → Sentence text p → All NodeFits (made_nodes p)
nodes_fit text p h = body_fits h.spells 0

-- the statements of any tree
pub statements_fit : (m i : ℕ) (p : Statement) → All StatementFits (statements_of m i p)
unfolding statements_of
statements_fit m i null = ((omega arith, refl), tt)
statements_fit m i (assign v e) = ((omega arith, refl), tt)
statements_fit m i (drive s e f) = ((omega arith, refl), tt)
statements_fit m i (wait o u f) = ((omega arith, refl), tt)
statements_fit m i (p then q) =
    all_append StatementFits (statements_of m i p) _ (statements_fit m i p) (statements_fit (m + nodes_in_body p) (i + statements_in p) q)
statements_fit m i (while e p) = (
  (omega arith, refl),
  all_append StatementFits (statements_of (m + nodes_in e) (i + 1) p) _ (statements_fit (m + nodes_in e) (i + 1) p)
      ((omega arith, refl), ((omega arith, refl), tt)),
)
statements_fit m i (choice e p q) = (
  (omega arith, refl),
  all_append StatementFits (statements_of (m + nodes_in e) (i + 1) p) _ (statements_fit (m + nodes_in e) (i + 1) p) (
    (omega arith, refl),
    all_append StatementFits (statements_of (m + nodes_in e + nodes_in_body p) (i + statements_in p + 2) q) _
        (statements_fit (m + nodes_in e + nodes_in_body p) (i + statements_in p + 2) q) ((omega arith, refl), tt),
  ),
)
