-- The nodes and statements of the parts of a tree in the two buffers, and those of the whole.
-- Assumes nothing.
use mathlib.Core.Path.{◌≡◌, refl, sym, ap, ap₂, ◌∙◌}
use mathlib.Core.List.{List, [], ◌∷◌, ◌++◌}
use Prim.Native.Nat.{ℕ, ◌+◌, ◌*◌, ◌-◌, ◌≤◌}
use native.Mathlib.Omega.{arith}
use lib.ListN.{length}
use lib.Seq.{sets}
use Rattle.blocks.specs.declared.records.StatementRecord.{StatementRecord}
use Rattle.grammar.specs.Grammar.{Statement, while, choice, Expression, ◌then◌}
use Rattle.grammar.specs.Made.{statement, nodes_in, nodes_of, nodes_in_body, nodes_of_body, statements_in, statements_of}
use Rattle.grammar.proofs.MadeLaws.{length_nodes_of, length_nodes_of_body, length_statements_of}
use Rattle.simple.proofs.AssignLaws.{stored}
use Rattle.reader.specs.Reading.{LoopPut, ChoicePut}
use Rattle.writing.specs.Written.{record_bytes, node_bytes, statement_bytes}
use Rattle.writing.proofs.WriteLaws.{sets_before, length_statements, nodes_behind, statements_behind}

-- one record stored after those that stand behind it
statement_before : (out : List ℕ) (i j : ℕ) (s : StatementRecord) (xs : List StatementRecord) → i + 1 ≤ j
    → sets (sets out (12 * j) (statement_bytes xs)) (12 * i) (statement_bytes (s ∷ [])) ≡ sets (sets out (12 * i) (statement_bytes (s ∷ []))) (12 * j) (statement_bytes xs)
statement_before out i j s xs h = sets_before out (12 * j) (12 * i) (statement_bytes xs) (statement_bytes (s ∷ [])) (omega (arith, length_statements (s ∷ []), h))

-- `unless`, a list, and ys: where the first and those behind the list are stored after it
pub around : (out : List ℕ) (i j : ℕ) (u : StatementRecord) (xs ys : List StatementRecord) {one two three : List ℕ} → j ≡ i + 1 + length xs
    → one ≡ sets out (12 * (i + 1)) (statement_bytes xs) → two ≡ sets one (12 * i) (statement_bytes (u ∷ [])) → three ≡ sets two (12 * j) (statement_bytes ys)
    → three ≡ sets out (12 * i) (statement_bytes (u ∷ (xs ++ ys)))
around out i j u xs ys {one} {two} {three} e f g h =
    let first : two ≡ sets (sets out (12 * i) (statement_bytes (u ∷ []))) (12 * (i + 1)) (statement_bytes xs) = g ∙ ap (λ l. sets l (12 * i) (statement_bytes (u ∷ []))) f ∙ statement_before out i (i + 1) u xs (omega arith) in
    let second : two ≡ sets out (12 * i) (statement_bytes ((u ∷ []) ++ xs)) = statements_behind out i (i + 1) (u ∷ []) xs refl refl first in
    statements_behind out i j (u ∷ xs) ys (omega (arith, e)) second h

pub nodes_then : (nodes : List ℕ) (m : ℕ) (p q : Statement) {one two : List ℕ} {m' : ℕ} → m' ≡ m + nodes_in_body p → one ≡ sets nodes (12 * m) (node_bytes (nodes_of_body m p))
    → two ≡ sets one (12 * m') (node_bytes (nodes_of_body m' q)) → two ≡ sets nodes (12 * m) (node_bytes (nodes_of_body m (p then q)))
unfolding nodes_of_body
nodes_then nodes m p q {one} {two} {m'} e f g =
    nodes_behind nodes m m' (nodes_of_body m p) (nodes_of_body (m + nodes_in_body p) q) (e ∙ ap (λ x. m + x) (sym (length_nodes_of_body m p))) f (g ∙ ap (λ x. sets one (12 * m') (node_bytes (nodes_of_body x q))) e)

pub statements_then : (out : List ℕ) (m i : ℕ) (p q : Statement) {one two : List ℕ} {m' i' : ℕ} → m' ≡ m + nodes_in_body p → i' ≡ i + statements_in p
    → one ≡ sets out (12 * i) (statement_bytes (statements_of m i p)) → two ≡ sets one (12 * i') (statement_bytes (statements_of m' i' q))
    → two ≡ sets out (12 * i) (statement_bytes (statements_of m i (p then q)))
unfolding statements_of
statements_then out m i p q {one} {two} {m'} {i'} e f g h =
    statements_behind out i i' (statements_of m i p) (statements_of (m + nodes_in_body p) (i + statements_in p) q) (f ∙ ap (λ x. i + x) (sym (length_statements_of m i p))) g
    (h ∙ ap₂ (λ x y. sets one (12 * i') (statement_bytes (statements_of x y q))) e f)

pub statements_while : (out : List ℕ) (m i : ℕ) (e : Expression) (p : Statement) {one two : List ℕ} {m' i' : ℕ} → m' ≡ m + nodes_in e → i' ≡ i + 1 + statements_in p
    → one ≡ sets out (12 * (i + 1)) (statement_bytes (statements_of m' (i + 1) p))
    → two ≡ sets (sets one (12 * i) (statement_bytes (statement 3 (i' + 1) (m' - 1) 0 0 ∷ []))) (12 * i') (statement_bytes (statement 4 i 0 0 0 ∷ (statement 0 0 0 0 0 ∷ [])))
    → two ≡ sets out (12 * i) (statement_bytes (statements_of m i (while e p)))
unfolding statements_of
statements_while out m i e p {one} {two} {m'} {i'} em ei f g =
    let xs = statements_of m' (i + 1) p in
    let ys = statement 4 i 0 0 0 ∷ (statement 0 0 0 0 0 ∷ []) in
    let past : i' + 1 ≡ i + statements_in p + 2 = omega (arith, ei) in
    around out i i' (statement 3 (i' + 1) (m' - 1) 0 0) xs ys (ei ∙ ap (λ n. i + 1 + n) (sym (length_statements_of m' (i + 1) p))) f refl g
    ∙ ap₂ (λ a b. sets out (12 * i) (statement_bytes (statement 3 a (b - 1) 0 0 ∷ (statements_of b (i + 1) p ++ ys)))) past em

pub statements_choice : (out : List ℕ) (m i : ℕ) (e : Expression) (p q : Statement) {one two three : List ℕ} {m' m'' i' i'' : ℕ} → m' ≡ m + nodes_in e → i' ≡ i + 1 + statements_in p
    → one ≡ sets out (12 * (i + 1)) (statement_bytes (statements_of m' (i + 1) p)) → m'' ≡ m' + nodes_in_body p → i'' ≡ i' + 1 + statements_in q
    → two ≡ sets one (12 * (i' + 1)) (statement_bytes (statements_of m'' (i' + 1) q))
    → three ≡ sets (sets (sets two (12 * i) (statement_bytes (statement 3 (i' + 1) (m' - 1) 0 0 ∷ []))) (12 * i') (statement_bytes (statement 4 i'' 0 0 0 ∷ []))) (12 * i'') (statement_bytes (statement 0 0 0 0 0 ∷ []))
    → three ≡ sets out (12 * i) (statement_bytes (statements_of m i (choice e p q)))
unfolding statements_of
statements_choice out m i e p q {one} {two} {three} {m'} {m''} {i'} {i''} em ei f em' ei' g h =
    let u = statement 3 (i' + 1) (m' - 1) 0 0 in
    let t = statement 4 i'' 0 0 0 in
    let z = statement 0 0 0 0 0 in
    let xs = statements_of m' (i + 1) p in
    let ys = statements_of m'' (i' + 1) q in
    let first : List ℕ = sets one (12 * i) (statement_bytes (u ∷ [])) in
    let moved : sets (sets two (12 * i) (statement_bytes (u ∷ []))) (12 * i') (statement_bytes (t ∷ [])) ≡ sets (sets first (12 * i') (statement_bytes (t ∷ []))) (12 * (i' + 1)) (statement_bytes ys) =
    ap (λ l. sets (sets l (12 * i) (statement_bytes (u ∷ []))) (12 * i') (statement_bytes (t ∷ []))) g
    ∙ ap (λ l. sets l (12 * i') (statement_bytes (t ∷ []))) (statement_before one i (i' + 1) u ys (omega (arith, ei)))
    ∙ statement_before first i' (i' + 1) t ys (omega arith) in
    let both : sets (sets two (12 * i) (statement_bytes (u ∷ []))) (12 * i') (statement_bytes (t ∷ [])) ≡ sets first (12 * i') (statement_bytes (t ∷ ys)) = statements_behind first i' (i' + 1) (t ∷ []) ys refl refl moved in
    let last : three ≡ sets first (12 * i') (statement_bytes (t ∷ (ys ++ (z ∷ [])))) = statements_behind first i' i'' (t ∷ ys) (z ∷ []) (omega (arith, ei', length_statements_of m'' (i' + 1) q)) both h in
    let past : i' + 1 ≡ i + statements_in p + 2 = omega (arith, ei) in
    let end : i'' ≡ i + statements_in p + statements_in q + 2 = omega (arith, ei, ei') in
    let later : m'' ≡ m + nodes_in e + nodes_in_body p = em' ∙ ap (λ n. n + nodes_in_body p) em in
    around out i i' u xs (t ∷ (ys ++ (z ∷ []))) (ei ∙ ap (λ n. i + 1 + n) (sym (length_statements_of m' (i + 1) p))) f refl last
    ∙ rw (past, end, later, em)

pub nodes_while : (nodes : List ℕ) (m : ℕ) (e : Expression) (p : Statement) {one two : List ℕ} {m' : ℕ} → m' ≡ m + nodes_in e → one ≡ sets nodes (12 * m) (node_bytes (nodes_of m e))
    → two ≡ sets one (12 * m') (node_bytes (nodes_of_body m' p)) → two ≡ sets nodes (12 * m) (node_bytes (nodes_of_body m (while e p)))
unfolding nodes_of_body
nodes_while nodes m e p {one} {two} {m'} em f g =
    nodes_behind nodes m m' (nodes_of m e) (nodes_of_body (m + nodes_in e) p) (em ∙ ap (λ x. m + x) (sym (length_nodes_of m e))) f (g ∙ ap (λ x. sets one (12 * m') (node_bytes (nodes_of_body x p))) em)

pub nodes_choice : (nodes : List ℕ) (m : ℕ) (e : Expression) (p q : Statement) {one two three : List ℕ} {m' m'' : ℕ} → m' ≡ m + nodes_in e → m'' ≡ m' + nodes_in_body p
    → one ≡ sets nodes (12 * m) (node_bytes (nodes_of m e)) → two ≡ sets one (12 * m') (node_bytes (nodes_of_body m' p)) → three ≡ sets two (12 * m'') (node_bytes (nodes_of_body m'' q))
    → three ≡ sets nodes (12 * m) (node_bytes (nodes_of_body m (choice e p q)))
unfolding nodes_of_body
nodes_choice nodes m e p q {one} {two} {three} {m'} {m''} em em' f g h =
    let later : m'' ≡ m + nodes_in e + nodes_in_body p = em' ∙ ap (λ n. n + nodes_in_body p) em in
    let rest : three ≡ sets one (12 * m') (node_bytes (nodes_of_body m' p ++ nodes_of_body m'' q)) = nodes_behind one m' m'' (nodes_of_body m' p) (nodes_of_body m'' q) (em' ∙ ap (λ x. m' + x) (sym (length_nodes_of_body m' p))) g h in
    nodes_behind nodes m m' (nodes_of m e) (nodes_of_body (m + nodes_in e) p ++ nodes_of_body (m + nodes_in e + nodes_in_body p) q) (em ∙ ap (λ x. m + x) (sym (length_nodes_of m e))) f
    (rest ∙ ap₂ (λ x y. sets one (12 * m') (node_bytes (nodes_of_body x p ++ nodes_of_body y q))) em later)

-- the records around lists, as they are put
pub loop_put : (out : List ℕ) (i end n : ℕ) {one two three : List ℕ} → one ≡ sets out (12 * i) (record_bytes 3 (end + 1) (n - 1) 0 0) → two ≡ sets one (12 * end) (record_bytes 4 i 0 0 0)
    → three ≡ sets two (12 * (end + 1)) (record_bytes 0 0 0 0 0) → LoopPut i end n out three
loop_put out i end n {one} {two} {three} e f g =
    let first = stored out i {s = statement 3 (end + 1) (n - 1) 0 0} e refl in
    let base : List ℕ = sets out (12 * i) (statement_bytes (statement 3 (end + 1) (n - 1) 0 0 ∷ [])) in
    let second : two ≡ sets base (12 * end) (statement_bytes (statement 4 i 0 0 0 ∷ [])) = stored one end {s = statement 4 i 0 0 0} f refl ∙ ap (λ l. sets l (12 * end) (statement_bytes (statement 4 i 0 0 0 ∷ []))) first in
    statements_behind base end (end + 1) (statement 4 i 0 0 0 ∷ []) (statement 0 0 0 0 0 ∷ []) refl second (stored two (end + 1) {s = statement 0 0 0 0 0} g refl)

pub choice_put : (out : List ℕ) (i middle end n : ℕ) {one two three : List ℕ} → one ≡ sets out (12 * i) (record_bytes 3 (middle + 1) (n - 1) 0 0) → two ≡ sets one (12 * middle) (record_bytes 4 end 0 0 0)
    → three ≡ sets two (12 * end) (record_bytes 0 0 0 0 0) → ChoicePut i middle end n out three
choice_put out i middle end n {one} {two} {three} e f g =
    stored two end {s = statement 0 0 0 0 0} g refl
    ∙ ap (λ l. sets l (12 * end) (statement_bytes (statement 0 0 0 0 0 ∷ []))) (stored one middle {s = statement 4 end 0 0 0} f refl
    ∙ ap (λ l. sets l (12 * middle) (statement_bytes (statement 4 end 0 0 0 ∷ []))) (stored out i {s = statement 3 (middle + 1) (n - 1) 0 0} e refl))
