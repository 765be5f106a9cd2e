-- The condition and the time of a wait: what is found, and that nothing is there where nothing is found.
-- Assumes nothing.
use mathlib.Core.Path.{◌≡◌, refl, sym, ap, ◌∙◌}
use mathlib.Core.List.{List, ◌∷◌}
use mathlib.Core.Logic.{◌≢◌}
use mathlib.Core.Option.{Option, none, some}
use Prim.Native.Nat.{ℕ, ◌+◌, ◌*◌, ◌-◌, ◌≤◌}
use native.Mathlib.Nat.{add-zero}
use native.Mathlib.Omega.{arith}
use lib.ListN.{length}
use lib.Seq.{sets}
use Rattle.fields.specs.Fields.{absent}
use Rattle.grammar.specs.Tokens.{Token, tok, word, from, NoWord}
use Rattle.tokens.specs.declared.Lexeme.{Lexeme}
use Rattle.tokens.specs.declared.Lexeme.TheVariants.{Word}
use Rattle.tokens.specs.Answers.{FirstToken, FoundWord}
use Rattle.grammar.specs.Words.{semicolon, for_word, until_word}
use Rattle.grammar.specs.Grammar.{Expression, Says, SaysFor, no_for, with_for, SaysUntil, no_until, with_until}
use Rattle.grammar.specs.Made.{nodes_in, nodes_of, nodes_of_part, root_of_part}
use Rattle.grammar.proofs.Unique.{one_expression, for_at, until_at}
use Rattle.grammar.proofs.MadeLaws.{length_nodes_of}
use Rattle.phrases.proofs.Operands.{begins_as, first_within}
use Rattle.writing.specs.Written.{node_bytes}
use Rattle.writing.proofs.WriteLaws.{nodes_behind}
use Rattle.phrases.specs.Phrases.{FoundExpression, FoundPhrase}
use Rattle.simple.specs.Waits.{FoundFor, NoFor, FoundUntil, NoUntil}

-- the first token decides
not_for : {f : Option Expression} {c v : ℕ} {s r : List Token} → c ≢ semicolon → c ≢ for_word → SaysFor f (tok c v ∷ s) r → ⊥
not_for a b no_for = a refl
not_for a b (with_for p) = b refl

pub not_until : {u f : Option Expression} {c v : ℕ} {s r : List Token} → c ≢ semicolon → c ≢ for_word → c ≢ until_word → SaysUntil u f (tok c v ∷ s) r → ⊥
not_until a b d (no_until p) = not_for a b p
not_until a b d (with_until p q) = d refl

-- A code is a variable here: so antt needs not tell two long words apart by counting.
for_time_by : {c : ℕ} {f : Option Expression} {s r : List Token} → c ≡ for_word → SaysFor f (word c ∷ s) r → (e : Expression) × Says e s (word semicolon ∷ r)
for_time_by h no_for = absurd (omega arith)
for_time_by h (with_for p) = (_, p)

for_time : {f : Option Expression} {s r : List Token} → SaysFor f (word for_word ∷ s) r → (e : Expression) × Says e s (word semicolon ∷ r)
for_time = for_time_by refl

module _ {text : List ℕ} {at x : ℕ} {token : Lexeme} (t : FirstToken text at token x) where
  word_begun : (c : ℕ) → token ≡ Word c → FoundWord text at c x
  word_begun c e = let (l, m) = first_within t (Word c) e (λ z. cc) in record { begins = begins_as t (Word c) e (λ z. cc); within = (omega (arith, l), m) }

  -- ;
  pub found_semicolon : {m : ℕ} (nodes : List ℕ) → token ≡ Word semicolon → m ≤ at → FoundFor text at m x m absent nodes nodes
  unfolding node_bytes
  found_semicolon {m} nodes e l =
      let w = word_begun semicolon e in
      record {
        time = none;
        says = for_at (sym w.begins) no_for;
        counted = sym (add-zero m);
        root = refl;
        written = refl;
        within = (w.within.0, w.within.1, omega (arith, w.within), omega arith);
      }

  -- for e ;
  module _ (e : token ≡ Word for_word) where
    pub found_for : {m y k set : ℕ} {nodes new : List ℕ} → FoundPhrase text x semicolon m y k set nodes new → length text ≤ 65535 → FoundFor text at m y k (k - 1) nodes new
    found_for f l =
        let w = word_begun for_word e in
        record {
          time = some f.tree;
          says = for_at (sym w.begins) (with_for f.says);
          counted = f.counted;
          root = ap (λ n. n - 1) f.counted;
          written = f.written;
          within = (omega (arith, w.within, f.within), f.within.1, f.within.3, omega (arith, f.within, l));
        }

-- no `until`
module _ (text : List ℕ) (at : ℕ) (n : NoWord (from text at) until_word) where
  pub without_until : {m y k c : ℕ} {nodes new : List ℕ} → FoundFor text at m y k c nodes new → FoundUntil text at m y k absent c 0 nodes new
  without_until {m} {nodes = nodes} f = record {
    condition = none;
    time = f.time;
    says = no_until f.says;
    counted = omega (arith, f.counted);
    first = refl;
    second = f.root ∙ ap (λ x. root_of_part x f.time) (sym (add-zero m));
    collected = refl;
    written = f.written ∙ ap (λ x. sets nodes (12 * m) (node_bytes (nodes_of_part x f.time))) (sym (add-zero m));
    within = (f.within.0, f.within.1, f.within.2, omega arith, f.within.3);
  }

-- until e
until_condition_by : {c : ℕ} {u f : Option Expression} {s r : List Token} → c ≡ until_word → SaysUntil u f (word c ∷ s) r
    → (e : Expression) × (t : List Token) × Says e s t × SaysFor f t r
until_condition_by {c = c} h (no_until p) = absurd (not_for {c = c} (λ z. omega (arith, z)) (λ z. omega (arith, z)) p)
until_condition_by h (with_until p q) = (_, _, p, q)

until_condition : {u f : Option Expression} {s r : List Token} → SaysUntil u f (word until_word ∷ s) r → (e : Expression) × (t : List Token) × Says e s t × SaysFor f t r
until_condition = until_condition_by refl

module _ {text : List ℕ} {at x : ℕ} (w : FoundWord text at until_word x) where
  module _ {m y k set : ℕ} {nodes one : List ℕ} (e : FoundExpression text x m y k set nodes one) where
    pub no_time_after : NoFor (from text y) → NoUntil (from text at)
    no_time_after n u f r h =
        let (g, t, p, q) = until_condition (until_at w.begins h) in
        n f r (for_at (sym (one_expression e.says p).1) q)

    pub with_condition : {z j c : ℕ} {two : List ℕ} → length text ≤ 65535 → FoundFor text y k z j c one two → FoundUntil text at m z j (k - 1) c set nodes two
    with_condition l f = record {
      condition = some e.tree;
      time = f.time;
      says = until_at (sym w.begins) (with_until e.says f.says);
      counted = omega (arith, e.counted, f.counted);
      first = ap (λ n. n - 1) e.counted;
      second = f.root ∙ ap (λ n. root_of_part n f.time) e.counted;
      collected = e.signals;
      written = nodes_behind nodes m k (nodes_of m e.tree) (nodes_of_part (m + nodes_in e.tree) f.time) (e.counted ∙ ap (λ x. m + x) (sym (length_nodes_of m e.tree))) e.written
          (f.written ∙ ap (λ n. sets one (12 * k) (node_bytes (nodes_of_part n f.time))) e.counted);
      within = (omega (arith, w.within, e.within, f.within), f.within.1, f.within.2, omega (arith, e.within, l), f.within.3);
    }
