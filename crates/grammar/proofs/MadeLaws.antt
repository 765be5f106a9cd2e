-- How many records a tree makes, and sets made in parts.
-- Assumes nothing.
use mathlib.Core.Path.{◌≡◌, refl}
use mathlib.Core.List.{List, [], ◌∷◌, ◌++◌}
use mathlib.Core.Option.{Option, none, some}
use Prim.Native.Nat.{ℕ, ◌+◌, ◌^◌, ◌≤◌}
use native.Mathlib.Omega.{arith}
use lib.Bits.{bit_or}
use lib.ListN.{length, length-append}
use Rattle.grammar.specs.Grammar.{Expression, number, logic, signal, variable, delayed, unary, binary, Statement, null, assign, drive, wait, while, choice, ◌then◌}
use Rattle.grammar.specs.Made.{nodes_in, nodes_of, set_with, nodes_in_part, nodes_of_part, nodes_in_body, nodes_of_body, statements_in, statements_of}

pub length_nodes_of : (m : ℕ) (e : Expression) → length (nodes_of m e) ≡ nodes_in e
unfolding nodes_of nodes_in
length_nodes_of m (number n) = refl
length_nodes_of m (logic n) = refl
length_nodes_of m (signal n) = refl
length_nodes_of m (variable n) = refl
length_nodes_of m (delayed s k) = refl
length_nodes_of m (unary kind e) = rw (length-append, length_nodes_of m e)
length_nodes_of m (binary kind a b) = rw (length-append, length-append, length_nodes_of m a, length_nodes_of (m + nodes_in a) b) (omega arith)

pub nodes_in_some : (e : Expression) → 1 ≤ nodes_in e
unfolding nodes_in
nodes_in_some (number n) = omega arith
nodes_in_some (logic n) = omega arith
nodes_in_some (signal n) = omega arith
nodes_in_some (variable n) = omega arith
nodes_in_some (delayed s k) = omega arith
nodes_in_some (unary kind e) = omega arith
nodes_in_some (binary kind a b) = omega arith

pub length_part : (m : ℕ) (u : Option Expression) → length (nodes_of_part m u) ≡ nodes_in_part u
length_part m none = refl
length_part m (some e) = length_nodes_of m e

pub length_nodes_of_body : (m : ℕ) (p : Statement) → length (nodes_of_body m p) ≡ nodes_in_body p
unfolding nodes_of_body nodes_in_body
length_nodes_of_body m null = refl
length_nodes_of_body m (assign v e) = length_nodes_of m e
length_nodes_of_body m (drive s e f) = rw (length-append, length_nodes_of m e, length_nodes_of (m + nodes_in e) f)
length_nodes_of_body m (wait o u f) = rw (length-append, length_part m u, length_part (m + nodes_in_part u) f)
length_nodes_of_body m (p then q) = rw (length-append, length_nodes_of_body m p, length_nodes_of_body (m + nodes_in_body p) q)
length_nodes_of_body m (while e p) = rw (length-append, length_nodes_of m e, length_nodes_of_body (m + nodes_in e) p)
length_nodes_of_body m (choice e p q) =
    rw (length-append, length-append, length_nodes_of m e, length_nodes_of_body (m + nodes_in e) p, length_nodes_of_body (m + nodes_in e + nodes_in_body p) q) (omega arith)

pub length_statements_of : (m i : ℕ) (p : Statement) → length (statements_of m i p) ≡ statements_in p
unfolding statements_of statements_in
length_statements_of m i null = refl
length_statements_of m i (assign v e) = refl
length_statements_of m i (drive s e f) = refl
length_statements_of m i (wait o u f) = refl
length_statements_of m i (p then q) = rw (length-append, length_statements_of m i p, length_statements_of (m + nodes_in_body p) (i + statements_in p) q)
length_statements_of m i (while e p) = rw (length-append, length_statements_of (m + nodes_in e) (i + 1) p) (omega arith)
length_statements_of m i (choice e p q) =
    rw (length-append, length_statements_of (m + nodes_in e) (i + 1) p, length-append, length_statements_of (m + nodes_in e + nodes_in_body p) (i + statements_in p + 2) q)
    (omega arith)

pub set_append : (set : ℕ) (xs ys : List ℕ) → set_with set (xs ++ ys) ≡ set_with (set_with set xs) ys
unfolding set_with
set_append set [] ys = refl
set_append set (x ∷ xs) ys = set_append (bit_or set (2 ^ x)) xs ys
