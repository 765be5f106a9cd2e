-- Lists of bytes stored one behind the other, or one before the other.
-- Assumes nothing.
use mathlib.Core.Path.{◌≡◌, refl, sym, ap, ap₂, ◌∙◌}
use mathlib.Core.List.{List, [], ◌∷◌, ◌++◌, append_assoc}
use Prim.Native.Nat.{ℕ, suc, ◌+◌, ◌*◌, ◌/◌, ◌%◌, ◌≤◌, ◌<◌}
use native.Mathlib.Nat.{add-zero, add-suc, suc-add}
use native.Mathlib.Numerals.{add-one}
use native.Mathlib.Omega.{arith}
use lib.ListN.{length, set, length-append}
use lib.Seq.{sets, set_comm}
use Rattle.blocks.specs.declared.records.NodeRecord.{NodeRecord}
use Rattle.blocks.specs.declared.records.StatementRecord.{StatementRecord}
use Rattle.writing.specs.Written.{word_bytes, record_bytes, node_bytes, statement_bytes}

pub sets_append : (out : List ℕ) (i : ℕ) (xs ys : List ℕ) → sets out i (xs ++ ys) ≡ sets (sets out i xs) (i + length xs) ys
sets_append out i [] ys = rw add-zero
sets_append out i (x ∷ xs) ys = rw (sets_append (set out i x) (suc i) xs ys, suc-add, add-suc)

set_before : (out : List ℕ) (i j w : ℕ) (xs : List ℕ) → j < i → set (sets out i xs) j w ≡ sets (set out j w) i xs
set_before out i j w [] h = refl
set_before out i j w (x ∷ xs) h = set_before (set out i x) (suc i) j w xs (omega arith) ∙ ap (λ l. sets l (suc i) xs) (set_comm out i j x w (λ e. omega arith))

-- what is stored before other bytes may be stored after them
pub sets_before : (out : List ℕ) (i j : ℕ) (xs ys : List ℕ) → j + length ys ≤ i → sets (sets out i xs) j ys ≡ sets (sets out j ys) i xs
sets_before out i j xs [] h = refl
sets_before out i j xs (y ∷ ys) h =
    ap (λ l. sets l (suc j) ys) (set_before out i j y xs (omega arith)) ∙ sets_before (set out j y) i (suc j) xs ys (omega arith)

pub length_record : (kind a b c l : ℕ) → length (record_bytes kind a b c l) ≡ 12
unfolding record_bytes word_bytes
length_record kind a b c l = refl

pub length_nodes : (ds : List NodeRecord) → length (node_bytes ds) ≡ 12 * length ds
unfolding node_bytes
length_nodes [] = refl
length_nodes (d ∷ ds) = rw (length-append, length_record d.kind d.a d.b 0 d.k, length_nodes ds) (omega arith)

pub length_statements : (ss : List StatementRecord) → length (statement_bytes ss) ≡ 12 * length ss
unfolding statement_bytes
length_statements [] = refl
length_statements (s ∷ ss) = rw (length-append, length_record s.kind s.a s.b s.c s.set, length_statements ss) (omega arith)

pub word_stored : (out : List ℕ) (at w : ℕ) {one two : List ℕ} → one ≡ set out at (w % 256) → two ≡ set one (at + 1) (w / 256) → two ≡ sets out at (word_bytes w)
unfolding word_bytes
word_stored out at w e f = rw (f, e, add-one)

-- bytes behind others
pub behind : (out : List ℕ) (at : ℕ) (xs ys : List ℕ) {one two : List ℕ} → one ≡ sets out at xs → two ≡ sets one (at + length xs) ys → two ≡ sets out at (xs ++ ys)
behind out at xs ys e f = f ∙ ap (λ l. sets l (at + length xs) ys) e ∙ sym (sets_append out at xs ys)

-- six words, one behind the other
pub six_words : (out : List ℕ) (at kind a b c l : ℕ) {o1 o2 o3 o4 o5 o6 : List ℕ} → o1 ≡ sets out at (word_bytes kind) → o2 ≡ sets o1 (at + 2) (word_bytes a)
    → o3 ≡ sets o2 (at + 4) (word_bytes b) → o4 ≡ sets o3 (at + 6) (word_bytes c) → o5 ≡ sets o4 (at + 8) (word_bytes (l % 65536))
    → o6 ≡ sets o5 (at + 10) (word_bytes (l / 65536)) → o6 ≡ sets out at (record_bytes kind a b c l)
unfolding record_bytes word_bytes
six_words out at kind a b c l e1 e2 e3 e4 e5 e6 =
    let two = word_bytes kind ++ word_bytes a in
    let three = two ++ word_bytes b in
    let four = three ++ word_bytes c in
    let five = four ++ word_bytes (l % 65536) in
    behind out at five (word_bytes (l / 65536)) (behind out at four (word_bytes (l % 65536)) (behind out at three (word_bytes c) (behind out at two (word_bytes b) (behind out at (word_bytes kind) (word_bytes a) e1 e2) e3) e4) e5) e6

pub nodes_append : (xs ys : List NodeRecord) → node_bytes (xs ++ ys) ≡ node_bytes xs ++ node_bytes ys
unfolding node_bytes
nodes_append [] ys = refl
nodes_append (d ∷ ds) ys = rw (nodes_append ds ys, append_assoc)

pub statements_append : (xs ys : List StatementRecord) → statement_bytes (xs ++ ys) ≡ statement_bytes xs ++ statement_bytes ys
unfolding statement_bytes
statements_append [] ys = refl
statements_append (s ∷ ss) ys = rw (statements_append ss ys, append_assoc)

-- records behind others
pub nodes_behind : (nodes : List ℕ) (m m' : ℕ) (xs ys : List NodeRecord) {one two : List ℕ} → m' ≡ m + length xs → one ≡ sets nodes (12 * m) (node_bytes xs)
    → two ≡ sets one (12 * m') (node_bytes ys) → two ≡ sets nodes (12 * m) (node_bytes (xs ++ ys))
nodes_behind nodes m m' xs ys e f g =
    let place : 12 * m' ≡ 12 * m + length (node_bytes xs) = omega (arith, length_nodes xs) in
    g ∙ ap₂ (λ l p. sets l p (node_bytes ys)) f place ∙ sym (sets_append nodes (12 * m) (node_bytes xs) (node_bytes ys)) ∙ ap (λ l. sets nodes (12 * m) l) (sym (nodes_append xs ys))

pub statements_behind : (out : List ℕ) (i i' : ℕ) (xs ys : List StatementRecord) {one two : List ℕ} → i' ≡ i + length xs → one ≡ sets out (12 * i) (statement_bytes xs)
    → two ≡ sets one (12 * i') (statement_bytes ys) → two ≡ sets out (12 * i) (statement_bytes (xs ++ ys))
statements_behind out i i' xs ys e f g =
    let place : 12 * i' ≡ 12 * i + length (statement_bytes xs) = omega (arith, length_statements xs) in
    g ∙ ap₂ (λ l p. sets l p (statement_bytes ys)) f place ∙ sym (sets_append out (12 * i) (statement_bytes xs) (statement_bytes ys)) ∙ ap (λ l. sets out (12 * i) l) (sym (statements_append xs ys))
