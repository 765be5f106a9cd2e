-- The made statements lie in the model as the text's statements do. Assumes nothing.
use mathlib.Core.Path.{◌≡◌, refl, sym, ap, ◌∙◌}
use mathlib.Core.List.{List, [], ◌∷◌, ◌++◌}
use mathlib.Core.Option.{Option, none, some}
use Prim.Native.Nat.{ℕ, ◌+◌, ◌<◌}
use native.Mathlib.Nat.{zero-add, add_assoc}
use native.Mathlib.Omega.{arith}
use borrow.Author.Tests.{lt-ltb, le-ltb}
use lib.Dec.{ltb}
use lib.ListN.{length}
use Rattle.base.specs.Cases.{◌∣◌, ◌⇒◌}
use Rattle.blocks.specs.Records.{Model, statement_at}
use Rattle.blocks.specs.declared.records.StatementRecord.{StatementRecord}
use Rattle.fields.specs.Fields.{absent}
use Rattle.rules.specs.Statements.{next_place}
use Rattle.grammar.specs.Tokens.{Token}
use Rattle.grammar.specs.Grammar.{Expression, Statement as Tree, wait, ◌then◌, while, choice, Says, SaysFor, no_for, with_for, SaysUntil, no_until, with_until, SaysOn, no_on, with_on, Part, Spells, spells_null, spells_assign, spells_drive, spells_wait, spells_while, spells_choice, last, more, Sentence}
use Rattle.grammar.specs.Made.{statement, nodes_in, root_of, nodes_of, nodes_in_part, nodes_of_part, nodes_in_body, nodes_of_body, statements_in, statements_of}
use Rattle.meaning.specs.Text.{Statement}
use Rattle.meaning.proofs.Lies.{Lies, lies_null, lies_simple, lies_then, lies_while, lies_choice}
use Rattle.body_meaning.specs.Statements.{ready_at, Simple, Condition, numbered, effect, test}
use Rattle.body_meaning.specs.Picks.{picks}
use Rattle.body_meaning.specs.Meaning.{Makes}
use Rattle.body_meaning.proofs.Stands.{stands_whole, stands_left, stands_right}
use Rattle.body_meaning.proofs.Values.{Same, no_node, StandNodes, same, behind}
use Rattle.grammar.proofs.MadeLaws.{length_nodes_of, nodes_in_some, length_part, length_statements_of}
use Rattle.body_meaning.proofs.Lengths.{some_statements, no_statement, StandStatements, stands_after, body_after, head, tail, left_part}
use Rattle.body_meaning.proofs.Effects.{null_goes, jump_goes, unless_tests, assign_does, drive_does, wait_does, wait_for_does}

-- the part `for` of a wait, if it is there, is an expression of the grammar
data SaidPart : Option Expression → Type 0 where
  left_out : SaidPart none
  said : {e : Expression} {s r : List Token} → Says e s r → SaidPart (some e)

said_for : {f : Option Expression} {s r : List Token} → SaysFor f s r → SaidPart f
said_for no_for = left_out
said_for (with_for x) = said x

said_until : {u f : Option Expression} {s r : List Token} → SaysUntil u f s r → SaidPart f
said_until (no_until x) = said_for x
said_until (with_until y x) = said_for x

said_on : {o : Option (List ℕ)} {u f : Option Expression} {s r : List Token} → SaysOn o u f s r → SaidPart f
said_on (no_on x) = said_until x
said_on (with_on y x) = said_until x

module _ (M : Model) (body : Tree) (makes : Makes body M) where
  -- the place after the statement before number i, the last one being followed by the first
  abbrev end : ℕ → ℕ
  end i = ltb i (length M.statements) ⇒ i ∣ 0

  end_in : (i : ℕ) → i < length M.statements → end i ≡ i
  end_in i h = rw (lt-ltb i (length M.statements) h)

  next_is : (i : ℕ) → next_place M 0 i ≡ end (i + 1)
  unfolding next_place
  next_is i = rw (makes.processes, zero-add)

  next_in : (i : ℕ) → i + 1 < length M.statements → next_place M 0 i ≡ i + 1
  next_in i h = next_is i ∙ end_in (i + 1) h

  -- the statement lies from place i to place j
  abbrev L : ℕ → Statement Simple Condition → ℕ → Type 0
  L i p j = Lies (effect M) (test M) (picks M) (ready_at i) p (ready_at j)

  place : {p : Statement Simple Condition} (i j k l : ℕ) → i ≡ k → j ≡ l → L i p j → L k p l
  place i j k l e f x = rw (e, f) at x

  -- statement k is the last one of p, and n the number behind it
  to_end : {p : Statement Simple Condition} {i : ℕ} (k n : ℕ) → k + 1 ≡ n → L i p (next_place M 0 k) → L i p (end n)
  to_end k n e x = rw (next_is k, e) at x

  wait_lies : (m i : ℕ) (o : Option (List ℕ)) (u : Option Expression) {f : Option Expression} → SaidPart f
      → StandStatements M i (statements_of m i (wait o u f)) → StandNodes M m (nodes_of_body m (wait o u f)) → L i (numbered m i (wait o u f)) (end (i + 1))
  unfolding statements_of nodes_of_body numbered
  wait_lies m i o u left_out st ns = to_end i _ refl (lies_simple (wait_does M i m o u _ _ (head M st)))
  wait_lies m i o u (said {e} x) st ns =
      let k = m + nodes_in_part u in
      let part : StandNodes M k (nodes_of k e) = stands_right M.nodes (no_node M) k (nodes_of_part m u) (nodes_of k e) (ap (λ y. m + y) (length_part m u)) ns in
      let low : root_of k e < absent = omega (arith, part.fits, makes.few, length_nodes_of k e, nodes_in_some e) in
      to_end i _ refl (lies_simple (wait_for_does M i m o u e _ (root_of k e) _ (same M x k part) low (head M st)))

  statement_at_lem : {i : ℕ} {r : StatementRecord} {l : List StatementRecord} (n : ℕ) → i ≡ n → StandStatements M i (r ∷ l) → statement_at M n ≡ r
  statement_at_lem n e s = rw e at (head M s)

  then_lies : (m i : ℕ) (p q : Tree) → StandStatements M (i + statements_in p) (statements_of (m + nodes_in_body p) (i + statements_in p) q)
      → L i (numbered m i p) (end (i + statements_in p))
      → L (i + statements_in p) (numbered (m + nodes_in_body p) (i + statements_in p) q) (end (i + statements_in p + statements_in q))
      → L i (numbered m i (p then q)) (end (i + statements_in (p then q)))
  unfolding numbered statements_in
  then_lies m i p q st x y =
      let k = i + statements_in p in
      let inside : k < length M.statements = omega (arith, st.fits, length_statements_of (m + nodes_in_body p) k q, some_statements q) in
      place i _ i _ refl (ap end (add_assoc i (statements_in p) (statements_in q))) (lies_then (place i _ i k refl (end_in k inside) x) y)

  while_lies : (m i : ℕ) (e : Expression) (p : Tree) → Same M m e (root_of m e) → StandStatements M i (statements_of m i (while e p))
      → L (i + 1) (numbered (m + nodes_in e) (i + 1) p) (end (i + 1 + statements_in p)) → L i (numbered m i (while e p)) (end (i + statements_in (while e p)))
  unfolding statements_of statements_in numbered
  while_lies m i e p c st x =
      let k = i + 1 + statements_in p in
      let l = i + statements_in p + 2 in
      let rest = stands_after M (m + nodes_in e) (i + 1) k p _ refl (tail M st) in
      let inside : k + 1 < length M.statements = let f = rest.fits in omega arith in
      to_end l _ (omega arith)
      (lies_while (unless_tests M i m e (root_of m e) c l (head M st))
      (place (i + 1) (end k) (next_place M 0 i) k (sym (next_in i (omega arith))) (end_in k (omega arith)) x)
      (jump_goes M k i (head M rest)) (null_goes M l (statement_at_lem l (omega arith) (tail M rest))))

  -- the second list of `if`, and the null behind it
  second_list : (m i : ℕ) (e : Expression) (p q : Tree) → StandStatements M i (statements_of m i (choice e p q))
      → StandStatements M (i + statements_in p + 2) (statements_of (m + nodes_in e + nodes_in_body p) (i + statements_in p + 2) q ++ (statement 0 0 0 0 0 ∷ []))
  unfolding statements_of
  second_list m i e p q st =
      let same_place : i + 1 + statements_in p + 1 ≡ i + statements_in p + 2 = omega arith in
      rw same_place at (tail M (stands_after M (m + nodes_in e) (i + 1) (i + 1 + statements_in p) p _ refl (tail M st)))

  choice_lies : (m i : ℕ) (e : Expression) (p q : Tree) → Same M m e (root_of m e) → StandStatements M i (statements_of m i (choice e p q))
      → L (i + 1) (numbered (m + nodes_in e) (i + 1) p) (end (i + 1 + statements_in p))
      → L (i + statements_in p + 2) (numbered (m + nodes_in e + nodes_in_body p) (i + statements_in p + 2) q) (end (i + statements_in p + 2 + statements_in q))
      → L i (numbered m i (choice e p q)) (end (i + statements_in (choice e p q)))
  unfolding statements_of statements_in numbered
  choice_lies m i e p q c st x y =
      let k = i + 1 + statements_in p in
      let n = i + statements_in p + 2 in
      let l = i + statements_in p + statements_in q + 2 in
      let rest = stands_after M (m + nodes_in e) (i + 1) k p _ refl (tail M st) in
      let final = stands_after M (m + nodes_in e + nodes_in_body p) n l q _ (omega arith) (second_list m i e p q st) in
      let inside : l < length M.statements = let f = final.fits in omega arith in
      to_end l _ (omega arith)
      (lies_choice (unless_tests M i m e (root_of m e) c n (head M st))
      (place (i + 1) (end k) (next_place M 0 i) k (sym (next_in i (omega arith))) (end_in k (omega arith)) x)
      (jump_goes M k l (head M rest)) (place n (end (n + statements_in q)) n l refl (end_in (n + statements_in q) (omega arith) ∙ omega arith) y)
      (null_goes M l (head M final)))

  -- by induction over how the tokens spell p
  lies : {part : Part} {d : ℕ} {p : Tree} {s r : List Token} → Spells part d p s r → (m i : ℕ) → StandStatements M i (statements_of m i p)
      → StandNodes M m (nodes_of_body m p) → L i (numbered m i p) (end (i + statements_in p))
  unfolding statements_of statements_in nodes_of_body nodes_in_body numbered
  lies spells_null m i st ns = to_end i _ refl (lies_null (null_goes M i (head M st)))
  lies (spells_assign {v} {e} x) m i st ns = to_end i _ refl (lies_simple (assign_does M i m e (root_of m e) (same M x m ns) v (head M st)))
  lies (spells_drive {n} {e} {f} x y) m i st ns =
      let left = stands_left M.nodes (no_node M) (nodes_of m e) (nodes_of (m + nodes_in e) f) ns in
      let right = behind M e (nodes_of (m + nodes_in e) f) ns in
      to_end i _ refl
      (lies_simple (drive_does M i m e (root_of m e) (same M x m left) n f (root_of (m + nodes_in e) f) (same M y (m + nodes_in e) right) (head M st)))
  lies (spells_wait {o} {u} x) m i st ns = wait_lies m i o u (said_on x) st ns
  lies (spells_while {e} {p} x y) m i st ns =
      while_lies m i e p (same M x m (stands_left M.nodes (no_node M) (nodes_of m e) _ ns)) st
      (lies y (m + nodes_in e) (i + 1) (left_part M (statements_of (m + nodes_in e) (i + 1) p) _ (tail M st)) (behind M e _ ns))
  lies (spells_choice {e} {p} {q} x y z) m i st ns =
      let inner = behind M e _ ns in
      let first-nodes = stands_left M.nodes (no_node M) (nodes_of_body (m + nodes_in e) p) _ inner in
      choice_lies m i e p q (same M x m (stands_left M.nodes (no_node M) (nodes_of m e) _ ns)) st
      (lies y (m + nodes_in e) (i + 1) (left_part M (statements_of (m + nodes_in e) (i + 1) p) _ (tail M st)) first-nodes)
      (lies z (m + nodes_in e + nodes_in_body p) (i + statements_in p + 2) (left_part M (statements_of _ _ q) _ (second_list m i e p q st)) (body_after M p _ inner))
  lies (last x) m i st ns = lies x m i st ns
  lies (more {p} {q} x y) m i st ns =
      let rest = stands_after M m i (i + statements_in p) p _ refl st in
      then_lies m i p q rest (lies x m i (left_part M (statements_of m i p) _ st) (stands_left M.nodes (no_node M) (nodes_of_body m p) _ ns))
      (lies y (m + nodes_in_body p) (i + statements_in p) rest (body_after M p _ ns))

  -- the body from the first statement on; behind the last one stands the first
  pub body_lies : {text : List ℕ} → Sentence text body → L 0 (numbered 0 0 body) 0
  body_lies sentence =
      let total : length M.statements ≡ statements_in body = ap length makes.statements ∙ length_statements_of 0 0 body in
      place 0 _ 0 0 refl (rw (zero-add, total, le-ltb (statements_in body) (statements_in body) (omega arith)))
      (lies sentence.spells 0 0 (stands_whole M.statements (no_statement M) makes.statements) (stands_whole M.nodes (no_node M) makes.nodes))
