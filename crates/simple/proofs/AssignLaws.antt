-- Assignments and waits: what is found, and that nothing is there where nothing is found.
-- Assumes nothing.
use mathlib.Core.Path.{◌≡◌, refl, sym, ap, ap₂, ◌∙◌}
use mathlib.Core.List.{List, [], ◌∷◌, append-nil}
use mathlib.Core.Option.{Option, none, some}
use Prim.Native.Nat.{ℕ, ◌+◌, ◌*◌, ◌-◌, ◌≤◌, ◌<◌}
use native.Mathlib.Omega.{arith}
use lib.Seq.{sets}
use Rattle.blocks.specs.declared.records.StatementRecord.{StatementRecord}
use Rattle.grammar.specs.Tokens.{Token, tok, word, signal_code, variable_code, from}
use Rattle.tokens.specs.Answers.{FoundWord}
use Rattle.grammar.specs.Words.{wait_word, on_word, after_word, semicolon, becomes, drives}
use Rattle.grammar.specs.Grammar.{Expression, Statement, assign, drive, wait, Says, SaysSignals, SaysUntil, SaysOn, no_on, with_on, one, Spells, spells_null, spells_assign, spells_drive, spells_wait, spells_while, spells_choice}
use Rattle.grammar.specs.Made.{statement, nodes_in, nodes_of, nodes_in_body, nodes_of_body, statements_in, statements_of, wait_set}
use Rattle.grammar.proofs.Unique.{one_expression, says_at, spells_at, until_at, one_signals, until_without_comma}
use Rattle.grammar.proofs.MadeLaws.{length_nodes_of}
use Rattle.writing.proofs.WriteLaws.{nodes_behind}
use Rattle.writing.specs.Written.{record_bytes, node_bytes, statement_bytes}
use Rattle.phrases.specs.Phrases.{FoundPhrase, NoPhrase}
use Rattle.simple.specs.Waits.{FoundSignals, NoSignals, FoundUntil, NoUntil}
use Rattle.simple.specs.Statements.{FoundStatement, NoStatement}
use Rattle.simple.proofs.WaitLaws.{not_until}

pub one_record : (s : StatementRecord) → record_bytes s.kind s.a s.b s.c s.set ≡ statement_bytes (s ∷ [])
unfolding statement_bytes
one_record s = sym (append-nil _)

-- a record stored is that of a statement
pub stored : (out : List ℕ) (i : ℕ) {s : StatementRecord} {kind a b c set : ℕ} {new : List ℕ} → new ≡ sets out (12 * i) (record_bytes kind a b c set)
    → statement kind a b c set ≡ s → new ≡ sets out (12 * i) (statement_bytes (s ∷ []))
stored out i {kind} {a} {b} {c} {set} e f = e ∙ ap (λ l. sets out (12 * i) l) (one_record (statement kind a b c set)) ∙ ap (λ s. sets out (12 * i) (statement_bytes (s ∷ []))) f

-- v := e ;
module _ {text : List ℕ} {at v x : ℕ} (w : FoundWord text at becomes x) where
  pub found_assign : {room m i y k set : ℕ} {nodes nodes' out out' : List ℕ} → FoundPhrase text x semicolon m y k set nodes nodes' → i < at
      → out' ≡ sets out (12 * i) (record_bytes 1 v (k - 1) 0 0) → FoundStatement text (tok variable_code v ∷ from text at) at room m i y k (i + 1) nodes nodes' out out'
  unfolding nodes_in_body nodes_of_body statements_in statements_of
  found_assign {i} {out} f l e = record {
    tree = assign v f.tree;
    spells = spells_at (ap (λ l. tok variable_code v ∷ l) (sym w.begins)) (spells_assign f.says);
    nodes_counted = f.counted;
    statements_counted = refl;
    nodes_written = f.written;
    written = stored out i e (ap (λ n. statement 1 v (n - 1) 0 0) f.counted);
    within = omega (arith, w.within, f.within);
  }

-- s <= e after e ;
no_delay_in : {d n : ℕ} {e : Expression} {p : Statement} {u w r : List Token} → Says e u (word after_word ∷ w) → NoPhrase w semicolon
    → Spells one d p (tok signal_code n ∷ word drives ∷ u) r → ⊥
no_delay_in {w} f n (spells_drive {t = t} a b) =
    let same = (one_expression f a).1 in
    let here : t ≡ w = cc in
    n _ _ (says_at here b)

module _ {text : List ℕ} {at s x : ℕ} (w : FoundWord text at drives x) where
  module _ {m y k set : ℕ} {nodes one' : List ℕ} (f : FoundPhrase text x after_word m y k set nodes one') where
    pub no_delay : {room : ℕ} → NoPhrase (from text y) semicolon → NoStatement (tok signal_code s ∷ from text at) room
    no_delay n p r h = no_delay_in f.says n (spells_at (ap (λ l. tok signal_code s ∷ l) w.begins) h)

    pub found_drive : {room i z j set' : ℕ} {two out out' : List ℕ} → FoundPhrase text y semicolon k z j set' one' two → i < at
        → out' ≡ sets out (12 * i) (record_bytes 2 s (k - 1) (j - 1) 0) → FoundStatement text (tok signal_code s ∷ from text at) at room m i z j (i + 1) nodes two out out'
    unfolding nodes_in_body nodes_of_body statements_in statements_of
    found_drive {i} {j} {out} g l e =
        let a = f.tree in
        let b = g.tree in
        let total : j ≡ m + nodes_in a + nodes_in b = omega (arith, f.counted, g.counted) in
        record {
          tree = drive s a b;
          spells = spells_at (ap (λ l. tok signal_code s ∷ l) (sym w.begins)) (spells_drive f.says g.says);
          nodes_counted = omega (arith, total);
          statements_counted = refl;
          nodes_written = nodes_behind nodes m k (nodes_of m a) (nodes_of (m + nodes_in a) b) (f.counted ∙ ap (λ x. m + x) (sym (length_nodes_of m a))) f.written
              (g.written ∙ ap (λ n. sets one' (12 * k) (node_bytes (nodes_of n b))) f.counted);
          written = stored out i e (ap₂ (λ n o. statement 2 s (n - 1) (o - 1) 0) f.counted total);
          within = omega (arith, w.within, f.within, g.within);
        }

-- wait ..
-- A code is a variable here: so antt needs not tell two long words apart by counting.
wait_parts_by : {c d : ℕ} {p : Statement} {s r : List Token} → c ≡ wait_word → Spells one d p (word c ∷ s) r
    → (o : Option (List ℕ)) × (u : Option Expression) × (f : Option Expression) × SaysOn o u f s r
wait_parts_by e spells_null = absurd (omega arith)
wait_parts_by e (spells_assign a) = absurd (omega arith)
wait_parts_by e (spells_drive a b) = absurd (omega arith)
wait_parts_by e (spells_wait h) = (_, _, _, h)
wait_parts_by e (spells_while a p) = absurd (omega arith)
wait_parts_by e (spells_choice a p q) = absurd (omega arith)

wait_parts : {d : ℕ} {p : Statement} {s r : List Token} → Spells one d p (word wait_word ∷ s) r → (o : Option (List ℕ)) × (u : Option Expression) × (f : Option Expression) × SaysOn o u f s r
wait_parts = wait_parts_by refl

on_at : {o : Option (List ℕ)} {u f : Option Expression} {s t r : List Token} → s ≡ t → SaysOn o u f s r → SaysOn o u f t r
on_at e h = rw e at h

-- with `on` or without
found_wait : {text : List ℕ} {at x room m i y k b c set : ℕ} {o : Option (List ℕ)} {nodes nodes' out out' : List ℕ} (f : FoundUntil text x m y k b c set nodes nodes')
    → SaysOn o f.condition f.time (from text at) (from text y) → at ≤ x → i < at → {l : ℕ} → l ≡ wait_set o f.condition → out' ≡ sets out (12 * i) (record_bytes 5 0 b c l)
    → FoundStatement text (word wait_word ∷ from text at) at room m i y k (i + 1) nodes nodes' out out'
unfolding nodes_in_body nodes_of_body statements_in statements_of
found_wait {i} {b} {c} {o} {out} f says less small {l} collected e = record {
  tree = wait o f.condition f.time;
  spells = spells_wait says;
  nodes_counted = f.counted;
  statements_counted = refl;
  nodes_written = f.written;
  written = stored out i e (rw (f.first, f.second, collected));
  within = omega (arith, f.within);
}

-- no `on`
-- on ..
on_parts : {o : Option (List ℕ)} {u f : Option Expression} {s r : List Token} → SaysOn o u f (word on_word ∷ s) r → (ns : List ℕ) × (t : List Token) × SaysSignals ns s t × SaysUntil u f t r
on_parts (no_on h) = absurd (not_until {c = on_word} (λ z. omega (arith, z)) (λ z. omega (arith, z)) (λ z. omega (arith, z)) h)
on_parts (with_on g h) = (_, _, g, h)

module _ {text : List ℕ} {at x : ℕ} (w : FoundWord text at on_word x) where
  pub no_signals : {room : ℕ} → NoSignals (from text x) → NoStatement (word wait_word ∷ from text at) room
  no_signals n p r h =
      let (o, u, f, parts) = wait_parts h in
      let (ns, t, a, b) = on_parts (on_at w.begins parts) in
      n ns t (until_without_comma b) a

  module _ {y set : ℕ} (g : FoundSignals text x y set) where
    pub no_rest : {room : ℕ} → NoUntil (from text y) → NoStatement (word wait_word ∷ from text at) room
    no_rest n p r h =
        let (o, u, f, parts) = wait_parts h in
        let (ns, t, a, b) = on_parts (on_at w.begins parts) in
        n u f r (until_at (sym (one_signals g.ends (until_without_comma b) g.says a).1) b)

    pub found_on : {room m i z k b c set' : ℕ} {nodes nodes' out out' : List ℕ} → FoundUntil text y m z k b c set' nodes nodes' → i < at
        → out' ≡ sets out (12 * i) (record_bytes 5 0 b c set) → FoundStatement text (word wait_word ∷ from text at) at room m i z k (i + 1) nodes nodes' out out'
    found_on f l e = found_wait {o = some g.signals} f (on_at (sym w.begins) (with_on g.says f.says)) (omega (arith, w.within, g.within)) l g.collected e

pub found_without_on : {text : List ℕ} {at room m i y k b c set : ℕ} {nodes nodes' out out' : List ℕ} → FoundUntil text at m y k b c set nodes nodes' → i < at
    → out' ≡ sets out (12 * i) (record_bytes 5 0 b c set) → FoundStatement text (word wait_word ∷ from text at) at room m i y k (i + 1) nodes nodes' out out'
found_without_on f l e = found_wait {o = none} f (no_on f.says) (omega arith) l f.collected e
