-- Statements and lists: what is found, part by part, and that there is nothing where a part is missing.
-- Assumes nothing.
use mathlib.Core.Path.{◌≡◌, refl, sym, ap, subst, ◌∙◌}
use mathlib.Core.List.{List, [], ◌∷◌}
use Prim.Native.Nat.{ℕ, suc, ◌+◌, ◌*◌, ◌-◌, ◌≤◌, ◌<◌}
use native.Mathlib.Omega.{arith}
use lib.Seq.{sets}
use Rattle.grammar.specs.Tokens.{Token, word, from, NoWord}
use Rattle.tokens.specs.declared.Lexeme.TheVariants.{Word}
use Rattle.tokens.specs.Answers.{FoundWord}
use Rattle.grammar.specs.Words.{null_word, if_word, then_word, else_word, end_word, while_word, loop_word, semicolon}
use Rattle.grammar.specs.Grammar.{Expression, Statement, null, while, choice, Says, one, list, Spells, spells_null, spells_assign, spells_drive, spells_wait, spells_while, spells_choice}
use Rattle.grammar.specs.Made.{statement, nodes_in_body, nodes_of_body, statements_in, statements_of}
use Rattle.grammar.proofs.Unique.{one_expression, one_statement, spells_at, stops_end, stops_else}
use Rattle.writing.specs.Written.{node_bytes, statement_bytes}
use Rattle.phrases.specs.Phrases.{FoundPhrase, NoPhrase}
use Rattle.simple.specs.Statements.{FoundStatement, NoStatement}
use Rattle.reader.specs.Reading.{FoundEnding, NoEnding, FoundList, NoList}
use Rattle.reader.proofs.Writing.{nodes_while, statements_while, nodes_choice, statements_choice}

-- null ;
-- The codes of long words are variables where a statement's form is asked: so antt needs not tell two of them apart by counting.
null_by : {c d : ℕ} {p : Statement} {u r : List Token} → c ≡ null_word → Spells one d p (word c ∷ u) r → u ≡ word semicolon ∷ r
null_by h spells_null = refl
null_by h (spells_assign e) = absurd (omega arith)
null_by h (spells_drive e f) = absurd (omega arith)
null_by h (spells_wait e) = absurd (omega arith)
null_by h (spells_while e q) = absurd (omega arith)
null_by h (spells_choice e q v) = absurd (omega arith)

no_semicolon_in : {d : ℕ} {p : Statement} {u r : List Token} → NoWord u semicolon → Spells one d p (word null_word ∷ u) r → ⊥
no_semicolon_in n h = n _ (null_by refl h)

module _ {text : List ℕ} {at x : ℕ} (w : FoundWord text at null_word x) where
  pub null_found : {room m i y : ℕ} (nodes : List ℕ) {out two : List ℕ} → m ≤ at → i ≤ at → FoundWord text x semicolon y
      → two ≡ sets out (12 * i) (statement_bytes (statement 0 0 0 0 0 ∷ [])) → FoundStatement text (from text at) at room m i y m (i + 1) nodes nodes out two
  unfolding nodes_in_body statements_in nodes_of_body statements_of node_bytes
  null_found nodes lm li v e = record {
    tree = null;
    spells = spells_at (sym (w.begins ∙ ap (λ l. word null_word ∷ l) v.begins)) spells_null;
    nodes_counted = omega arith;
    statements_counted = refl;
    nodes_written = refl;
    written = e;
    within = omega (arith, w.within, v.within);
  }

-- while e loop p end loop ;
while_by : {c d : ℕ} {p : Statement} {u r : List Token} → c ≡ while_word → Spells one (suc d) p (word c ∷ u) r
    → (e : Expression) × (q : Statement) × (t : List Token) × Says e u (word loop_word ∷ t) × Spells list d q t (word end_word ∷ word loop_word ∷ word semicolon ∷ r)
while_by h spells_null = absurd (omega arith)
while_by h (spells_assign e) = absurd (omega arith)
while_by h (spells_drive e f) = absurd (omega arith)
while_by h (spells_wait e) = absurd (omega arith)
while_by h (spells_while e b) = (_, _, _, e, b)
while_by h (spells_choice e q v) = absurd (omega arith)

no_test_by : {c d : ℕ} {p : Statement} {u r : List Token} → c ≡ while_word → NoPhrase u loop_word → Spells one d p (word c ∷ u) r → ⊥
no_test_by h n spells_null = absurd (omega arith)
no_test_by h n (spells_assign e) = absurd (omega arith)
no_test_by h n (spells_drive e f) = absurd (omega arith)
no_test_by h n (spells_wait e) = absurd (omega arith)
no_test_by h n (spells_while e b) = n _ _ e
no_test_by h n (spells_choice e q v) = absurd (omega arith)

no_test_in : {d : ℕ} {p : Statement} {u r : List Token} → NoPhrase u loop_word → Spells one d p (word while_word ∷ u) r → ⊥
no_test_in n h = no_test_by refl n h

no_body_in : {d : ℕ} {e : Expression} {p : Statement} {u w r : List Token} → Says e u (word loop_word ∷ w) → NoList w d (Word end_word) → Spells one (suc d) p (word while_word ∷ u) r → ⊥
no_body_in {w = w} f n h =
    let (e, q, t, says, b) = while_by refl h in
    let same = (one_expression f says).1 in
    let here : t ≡ w = cc in
    n _ _ (spells_at here b)

no_end_in : {d k : ℕ} {e : Expression} {p q : Statement} {u w z r : List Token} → Says e u (word loop_word ∷ w) → Spells list k q w (word end_word ∷ z) → NoEnding z loop_word
    → Spells one (suc d) p (word while_word ∷ u) r → ⊥
no_end_in {w = w} {z = z} {r = r} f g n h =
    let (e, q, t, says, b) = while_by refl h in
    let same = (one_expression f says).1 in
    let here : t ≡ w = cc in
    let after = (one_statement (end_word, _, refl, stops_end) (end_word, _, refl, stops_end) g (spells_at here b)).1 in
    n r (cc)

-- if e then p else q end if ;
no_first_in : {d : ℕ} {e : Expression} {p : Statement} {u w r : List Token} → Says e u (word then_word ∷ w) → NoList w d (Word else_word) → Spells one (suc d) p (word if_word ∷ u) r → ⊥
no_first_in {w} f n (spells_choice {t = t} e b c) =
    let same = (one_expression f e).1 in
    let here : t ≡ w = cc in
    n _ _ (spells_at here b)

no_second_in : {d k : ℕ} {e : Expression} {p q : Statement} {u w z r : List Token} → Says e u (word then_word ∷ w) → Spells list k q w (word else_word ∷ z) → NoList z d (Word end_word)
    → Spells one (suc d) p (word if_word ∷ u) r → ⊥
no_second_in {w} {z} f g n (spells_choice {t = t} {u = v} e b c) =
    let same = (one_expression f e).1 in
    let here : t ≡ w = cc in
    let after = (one_statement (else_word, _, refl, stops_else) (else_word, _, refl, stops_else) g (spells_at here b)).1 in
    let there : v ≡ z = cc in
    n _ _ (spells_at there c)

no_endif_in : {d k l : ℕ} {e : Expression} {p q q' : Statement} {u w z y r : List Token} → Says e u (word then_word ∷ w) → Spells list k q w (word else_word ∷ z)
    → Spells list l q' z (word end_word ∷ y) → NoEnding y if_word → Spells one (suc d) p (word if_word ∷ u) r → ⊥
no_endif_in {w} {z} f g h n (spells_choice {t = t} {u = v} {r = r} e b c) =
    let same = (one_expression f e).1 in
    let here : t ≡ w = cc in
    let after = (one_statement (else_word, _, refl, stops_else) (else_word, _, refl, stops_else) g (spells_at here b)).1 in
    let there : v ≡ z = cc in
    let last = (one_statement (end_word, _, refl, stops_end) (end_word, _, refl, stops_end) h (spells_at there c)).1 in
    n r (cc)

-- room for a level
down : {room : ℕ} → 0 < room → suc (room - 1) ≡ room
down h = omega arith

with_room : {room : ℕ} {p : Statement} {s r : List Token} → 0 < room → Spells one room p s r → Spells one (suc (room - 1)) p s r
with_room {room} {p} {s} {r} h x = subst (λ n. Spells one n p s r) (sym (down h)) x

without_room : {room : ℕ} {p : Statement} {s r : List Token} → 0 < room → Spells one (suc (room - 1)) p s r → Spells one room p s r
without_room {room} {p} {s} {r} h x = subst (λ n. Spells one n p s r) (down h) x

module _ {text : List ℕ} {at room m x k set : ℕ} {nodes nodes1 : List ℕ} (enough : 0 < room) where
  module _ (f : FoundPhrase text at loop_word m x k set nodes nodes1) where
    pub no_body : NoList (from text x) (room - 1) (Word end_word) → NoStatement (word while_word ∷ from text at) room
    no_body n p r h = no_body_in f.says n (with_room enough h)

    module _ (i : ℕ) {y m' i' : ℕ} {nodes2 out one : List ℕ} (g : FoundList text x (room - 1) (Word end_word) k (i + 1) y m' i' nodes1 nodes2 out one) where
      body_spells : Spells list (room - 1) g.tree (from text x) (word end_word ∷ from text y)
      body_spells = rw (g.goes_on (λ e. cc)) at g.spells

      pub while_found : {z : ℕ} {two : List ℕ} → FoundEnding text y loop_word z
          → two ≡ sets (sets one (12 * i) (statement_bytes (statement 3 (i' + 1) (k - 1) 0 0 ∷ []))) (12 * i') (statement_bytes (statement 4 i 0 0 0 ∷ (statement 0 0 0 0 0 ∷ [])))
          → FoundStatement text (word while_word ∷ from text at) at room m i z m' (i' + 2) nodes nodes2 out two
      unfolding nodes_in_body statements_in
      while_found v e = record {
        tree = while f.tree g.tree;
        spells = without_room enough (spells_while f.says (rw v.begins at body_spells));
        nodes_counted = omega (arith, f.counted, g.nodes_counted);
        statements_counted = omega (arith, g.statements_counted);
        nodes_written = nodes_while nodes m f.tree g.tree f.counted f.written g.nodes_written;
        written = statements_while out m i f.tree g.tree f.counted g.statements_counted g.written e;
        within = omega (arith, f.within, g.within, v.within);
      }

      pub no_loop_end : NoEnding (from text y) loop_word → NoStatement (word while_word ∷ from text at) room
      no_loop_end n p r h = no_end_in f.says body_spells n (with_room enough h)

  module _ (f : FoundPhrase text at then_word m x k set nodes nodes1) where
    pub no_first : NoList (from text x) (room - 1) (Word else_word) → NoStatement (word if_word ∷ from text at) room
    no_first n p r h = no_first_in f.says n (with_room enough h)

    module _ (i : ℕ) {y m' i' : ℕ} {nodes2 out one : List ℕ} (g : FoundList text x (room - 1) (Word else_word) k (i + 1) y m' i' nodes1 nodes2 out one) where
      first_spells : Spells list (room - 1) g.tree (from text x) (word else_word ∷ from text y)
      first_spells = rw (g.goes_on (λ e. cc)) at g.spells

      pub no_second : NoList (from text y) (room - 1) (Word end_word) → NoStatement (word if_word ∷ from text at) room
      no_second n p r h = no_second_in f.says first_spells n (with_room enough h)

      module _ {z m'' i'' : ℕ} {nodes3 two : List ℕ} (j : FoundList text y (room - 1) (Word end_word) m' (i' + 1) z m'' i'' nodes2 nodes3 one two) where
        second_spells : Spells list (room - 1) j.tree (from text y) (word end_word ∷ from text z)
        second_spells = rw (j.goes_on (λ e. cc)) at j.spells

        pub choice_found : {w : ℕ} {three : List ℕ} → FoundEnding text z if_word w
            → three ≡ sets (sets (sets two (12 * i) (statement_bytes (statement 3 (i' + 1) (k - 1) 0 0 ∷ []))) (12 * i') (statement_bytes (statement 4 i'' 0 0 0 ∷ []))) (12 * i'') (statement_bytes (statement 0 0 0 0 0 ∷ []))
            → FoundStatement text (word if_word ∷ from text at) at room m i w m'' (i'' + 1) nodes nodes3 out three
        unfolding nodes_in_body statements_in
        choice_found v e = record {
          tree = choice f.tree g.tree j.tree;
          spells = without_room enough (spells_choice f.says first_spells (rw v.begins at second_spells));
          nodes_counted = omega (arith, f.counted, g.nodes_counted, j.nodes_counted);
          statements_counted = omega (arith, g.statements_counted, j.statements_counted);
          nodes_written = nodes_choice nodes m f.tree g.tree j.tree f.counted g.nodes_counted f.written g.nodes_written j.nodes_written;
          written = statements_choice out m i f.tree g.tree j.tree f.counted g.statements_counted g.written g.nodes_counted j.statements_counted j.written e;
          within = omega (arith, f.within, g.within, j.within, v.within);
        }

        pub no_choice_end : NoEnding (from text z) if_word → NoStatement (word if_word ∷ from text at) room
        no_choice_end n p r h = no_endif_in f.says first_spells second_spells n (with_room enough h)
