-- A statement by its first token, lists of statements, and whole texts.
-- Assumes nothing.
use mathlib.Core.Path.{◌≡◌, refl, sym, ap, ◌∙◌}
use mathlib.Core.Bool.{true, false, true≢false, false≢true}
use mathlib.Core.List.{List, ◌∷◌}
use mathlib.Core.Logic.{◌≢◌}
use Prim.Native.Nat.{ℕ, ◌≤◌, ◌<◌}
use native.Mathlib.Omega.{arith}
use lib.ListN.{length}
use Rattle.grammar.specs.Tokens.{Token, from}
use Rattle.std.specs.Prelude.{Option, Some, None}
use Rattle.std.specs.Option.{is_some}
use Rattle.tokens.specs.declared.Lexeme.{Lexeme}
use Rattle.tokens.specs.declared.Lexeme.TheVariants.{Word, End}
use Rattle.tokens.specs.Answers.{meant, Fits, Word as IsWord, FirstToken, FoundWord}
use Rattle.tokens.proofs.Lexing.{other_word, other_end}
use Rattle.phrases.proofs.Operands.{begins_as, first_within}
use Rattle.simple.specs.declared.Made.{Made}
use Rattle.grammar.specs.Words.{end_word, else_word}
use Rattle.grammar.specs.Grammar.{Statement, one, list, Spells, last, more, ◌then◌}
use Rattle.grammar.specs.Made.{nodes_in_body, statements_in}
use Rattle.grammar.proofs.Unique.{one_statement, spells_at, one_reading}
use Rattle.body_meaning.proofs.Meaning.{same_meaning}
use Rattle.simple.specs.Statements.{FoundStatement, NoStatement, AnswerStatement}
use Rattle.reader.specs.Reading.{Behind, behind_end, behind_else, behind_mark, FoundList, NoList, AnswerList, Refused, Read}
use Rattle.reader.proofs.Writing.{nodes_then, statements_then}

-- a word and a semicolon
-- a statement by its first token
module _ {text : List ℕ} {at x : ℕ} {token : Lexeme} (t : FirstToken text at token x) where
  -- a name or a word
  pub stands : (u : Lexeme) → token ≡ u → u ≢ End → (meant u ∷ from text x ≡ from text at) × (at < x)
  stands u e n = let (l, m) = first_within t u e n in (sym (begins_as t u e n), omega (arith, l))

  pub word_stands : (c : ℕ) → token ≡ Word c → FoundWord text at c x
  word_stands c e = let (l, m) = first_within t (Word c) e (λ z. cc) in record { begins = begins_as t (Word c) e (λ z. cc); within = (omega (arith, l), m) }

-- an answer for the tokens from a word on is one for those after it
pub from_before : (text : List ℕ) {s s' : List Token} {at x : ℕ} (room m i : ℕ) (nodes nodes' out two : List ℕ) (o : Option Made) → s ≡ s' → at < x
    → AnswerStatement text s x room m i o nodes nodes' out two → AnswerStatement text s' at room m i o nodes nodes' out two
from_before text room m i nodes nodes' out two None e less n = λ p r h. n _ _ (spells_at (sym e) h)
from_before text room m i nodes nodes' out two (Some made) e less f = record {
  tree = f.tree;
  spells = spells_at e f.spells;
  nodes_counted = f.nodes_counted;
  statements_counted = f.statements_counted;
  nodes_written = f.nodes_written;
  written = f.written;
  within = omega (arith, f.within);
}

-- lists
pub no_list : {s : List Token} {d : ℕ} (stop : Lexeme) → NoStatement s d → NoList s d stop
no_list stop n p r (last a) = n _ _ a
no_list stop n p r (more a b) = n _ _ a

not_last_in : {d k : ℕ} {p q : Statement} {s u r : List Token} (stop : Lexeme) → Spells one k q s u → ((v : List Token) → u ≡ meant stop ∷ v → ⊥) → NoList u d stop → Spells list d p s (meant stop ∷ r) → ⊥
not_last_in stop f n m (last a) = n _ (one_statement tt tt f a).1
not_last_in stop f n m (more a b) = m _ _ (spells_at (sym (one_statement tt tt f a).1) b)

ending_word : IsWord end_word
ending_word = record { not_number = λ e. omega (arith, e); not_signal = λ e. omega (arith, e); not_variable = λ e. omega (arith, e); not_logic = λ e. omega (arith, e); not_end = λ e. omega (arith, e) }

else_is_word : IsWord else_word
else_is_word = record { not_number = λ e. omega (arith, e); not_signal = λ e. omega (arith, e); not_variable = λ e. omega (arith, e); not_logic = λ e. omega (arith, e); not_end = λ e. omega (arith, e) }

-- what stands behind a list is no other token
pub behind_other : {stop : Lexeme} {s r : List Token} (token : Lexeme) → Fits token → Behind stop → token ≢ stop → meant token ∷ s ≡ meant stop ∷ r → ⊥
behind_other token f behind_end n e = other_word token ending_word n e
behind_other token f behind_else n e = other_word token else_is_word n e
behind_other token f behind_mark n e = other_end token f n e

module _ {text : List ℕ} {at room m i y m' i' z : ℕ} {stop token : Lexeme} {nodes nodes' out two : List ℕ} (f : FoundStatement text (from text at) at room m i y m' i' nodes nodes' out two)
    (t : FirstToken text y token z) where
  pub found_last : token ≡ stop → FoundList text at room stop m i z m' i' nodes nodes' out two
  found_last e =
      let here : from text y ≡ meant stop ∷ t.rest = t.begins ∙ ap (λ u. meant u ∷ t.rest) e in
      record {
        tree = f.tree;
        rest = t.rest;
        spells = last (rw here at f.spells);
        goes_on = λ c. (t.goes_on (λ b. c (sym e ∙ b))).0;
        nodes_counted = f.nodes_counted;
        statements_counted = f.statements_counted;
        nodes_written = f.nodes_written;
        written = f.written;
        within = omega (arith, f.within, t.within);
      }

  pub more_answer : (nodes'' three : List ℕ) (o : Option Made) → token ≢ stop → Behind stop → AnswerList text y room stop m' i' o nodes' nodes'' two three
      → AnswerList text at room stop m i o nodes nodes'' out three
  unfolding nodes_in_body statements_in
  more_answer nodes'' three None e b n = λ p r h. not_last_in stop f.spells (λ u c. behind_other token t.fits b e (sym t.begins ∙ c)) n h
  more_answer nodes'' three (Some made) e b g = record {
    tree = f.tree then g.tree;
    rest = g.rest;
    spells = more f.spells g.spells;
    goes_on = g.goes_on;
    nodes_counted = omega (arith, f.nodes_counted, g.nodes_counted);
    statements_counted = omega (arith, f.statements_counted, g.statements_counted);
    nodes_written = nodes_then nodes m f.tree g.tree f.nodes_counted f.nodes_written g.nodes_written;
    written = statements_then out m i f.tree g.tree f.nodes_counted f.statements_counted f.written g.written;
    within = omega (arith, f.within, g.within);
  }

-- the loop over a list: an answer from the place reached is an answer from the start
abbrev pub Onward : List ℕ → (at room : ℕ) → Lexeme → (m i place m' i' : ℕ) → (nodes nodes' out two : List ℕ) → Type 0
Onward text at room stop m i place m' i' nodes nodes' out two =
    (o : Option Made) (nodes'' three : List ℕ) → AnswerList text place room stop m' i' o nodes' nodes'' two three → AnswerList text at room stop m i o nodes nodes'' out three

-- whole texts
refused : (text nodes out : List ℕ) → Refused text 0 0 nodes nodes out out → Read text 26 0 0 nodes nodes out out
refused text nodes out r = record { one_number = λ n. refl; accepted = λ e. absurd (omega (arith, e)); refused = λ e. r; one_reading = one_reading text; meaning = λ p M s h. same_meaning M p s h }

pub too_long : (text nodes out : List ℕ) → 65535 < length text → Read text 26 0 0 nodes nodes out out
too_long text nodes out h = refused text nodes out (record { no_sentence = λ p s. h; nothing_counted = (refl, refl); nodes_kept = refl; kept = refl })

pub no_text : (text nodes out : List ℕ) → NoList (from text 0) 16 End → Read text 26 0 0 nodes nodes out out
no_text text nodes out n = refused text nodes out (record { no_sentence = λ p s. absurd (n p s.rest s.spells); nothing_counted = (refl, refl); nodes_kept = refl; kept = refl })

-- what judging a text found
module _ (text nodes nodes' out out' : List ℕ) where
  pub judged_none : (o : Option Made) → is_some o ≡ false → AnswerList text 0 16 End 0 0 o nodes nodes' out out' → NoList (from text 0) 16 End
  judged_none None e n = n
  judged_none (Some r) e f = absurd (true≢false e)

  pub judged_some : (o : Option Made) → is_some o ≡ true → AnswerList text 0 16 End 0 0 o nodes nodes' out out' → NoList (from text 0) 16 End → ⊥
  judged_some None e n h = absurd (false≢true e)
  judged_some (Some r) e f h = h f.tree f.rest f.spells

-- a text that was judged to be a sentence is not found to be none
pub text_read : {text : List ℕ} {next m i : ℕ} {nodes nodes' out out' : List ℕ} → length text ≤ 65535 → FoundList text 0 16 End 0 0 next m i nodes nodes' out out' → Read text 0 m i nodes nodes' out out'
text_read {text} h f = record {
  one_number = λ n. absurd (n refl);
  accepted = λ e. record {
    tree = f.tree;
    sentence = record { rest = f.rest; spells = f.spells };
    short = h;
    nodes_counted = omega (arith, f.nodes_counted);
    statements_counted = omega (arith, f.statements_counted);
    nodes_written = f.nodes_written;
    written = f.written;
  };
  refused = λ e. absurd (omega (arith, e));
  one_reading = one_reading text;
  meaning = λ p M s h. same_meaning M p s h;
}
