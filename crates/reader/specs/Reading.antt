-- What a text is read as (document 02, item 12).
use Rattle.std.specs.Prelude.{◌≡◌, Option, MatchOption, Result, Ok, Err, List, [], ◌∷◌, ◌≢◌, ℕ, ◌+◌, ◌*◌, ◌-◌, ◌≤◌, ◌<◌, length}
use Rattle.std.proofs.lemmas.List.Edits.{sets}
use Rattle.grammar.specs.Tokens.{Token, word, from}
use Rattle.base.specs.declared.refusal.Refusal.{Refusal}
use Rattle.tokens.specs.declared.Lexeme.{Lexeme}
use Rattle.tokens.specs.declared.Lexeme.TheVariants.{Word, End}
use Rattle.tokens.specs.Answers.{meant}
use Rattle.simple.specs.declared.Made.{Made}
use Rattle.reader.specs.declared.Counts.{Counts}
use Rattle.grammar.specs.Words.{semicolon, end_word, else_word}
use Rattle.grammar.specs.Grammar.{Statement, list, Spells, Sentence, OneReading}
use Rattle.grammar.specs.Made.{statement, nodes_in_body, nodes_of_body, statements_in, statements_of, made_nodes, made_statements}
use Rattle.blocks.specs.Records.{Model}
use Rattle.body_meaning.specs.Meaning.{Makes, SameMeaning}
use Rattle.writing.specs.Written.{node_bytes, statement_bytes}

-- the word c and a semicolon stand at a place
pub record FoundEnding (text : List ℕ) (at c next : ℕ) : Type 0 where
  pub begins : from text at ≡ word c ∷ word semicolon ∷ from text next
  pub within : (at + 1 < next) × (next ≤ length text)

abbrev pub NoEnding : List Token → ℕ → Type 0
NoEnding s c = (r : List Token) → s ≡ word c ∷ word semicolon ∷ r → ⊥

-- what can stand behind a list of statements: `end`, `else` or the end mark
pub data Behind : Lexeme → Type 0 where
  behind_end : Behind (Word end_word)
  behind_else : Behind (Word else_word)
  behind_mark : Behind End

-- `unless` before a list that ends at `end`, and `go to` and null behind it; n nodes stand before the list
abbrev pub LoopPut : ℕ → ℕ → ℕ → List ℕ → List ℕ → Type 0
LoopPut i end n out out' =
    out' ≡ sets (sets out (12 * i) (statement_bytes (statement 3 (end + 1) (n - 1) 0 0 ∷ []))) (12 * end) (statement_bytes (statement 4 i 0 0 0 ∷ (statement 0 0 0 0 0 ∷ [])))

-- `unless` before two lists, which end at `middle` and `end`, `go to` between them and null behind
abbrev pub ChoicePut : ℕ → ℕ → ℕ → ℕ → List ℕ → List ℕ → Type 0
ChoicePut i middle end n out out' =
    out' ≡ sets (sets (sets out (12 * i) (statement_bytes (statement 3 (middle + 1) (n - 1) 0 0 ∷ []))) (12 * middle) (statement_bytes (statement 4 end 0 0 0 ∷ [])))
    (12 * end) (statement_bytes (statement 0 0 0 0 0 ∷ []))

-- A list of statements with at most so many levels stands from a place on, and the token `stop` after it; m, i and the buffers as for one statement.
pub record FoundList (text : List ℕ) (at room : ℕ) (stop : Lexeme) (m i next m' i' : ℕ) (nodes nodes' out out' : List ℕ) : Type 0 where
  pub tree : Statement
  pub rest : List Token
  pub spells : Spells list room tree (from text at) (meant stop ∷ rest)
  pub goes_on : stop ≢ End → rest ≡ from text next
  pub nodes_counted : m' ≡ m + nodes_in_body tree
  pub statements_counted : i' ≡ i + statements_in tree
  pub nodes_written : nodes' ≡ sets nodes (12 * m) (node_bytes (nodes_of_body m tree))
  pub written : out' ≡ sets out (12 * i) (statement_bytes (statements_of m i tree))
  pub within : (at < next) × (next ≤ length text) × (m' ≤ next) × (i' < next)

abbrev pub NoList : List Token → ℕ → Lexeme → Type 0
NoList s room stop = (p : Statement) (r : List Token) → Spells list room p s (meant stop ∷ r) → ⊥

abbrev pub AnswerList : List ℕ → (at room : ℕ) → Lexeme → (m i : ℕ) → Option Made → (nodes nodes' out out' : List ℕ) → Type 0
AnswerList text at room stop m i made nodes nodes' out out' =
    MatchOption made (NoList (from text at) room stop) (λ r. FoundList text at room stop m i r.next r.nodes r.statements nodes nodes' out out')

-- the longest text
abbrev pub longest : ℕ
longest = 65535

-- A text that is a sentence: its tree, how many nodes and statements that makes, and their records in the two buffers, as far as these reach.
pub record Accepted (text : List ℕ) (m i : ℕ) (nodes nodes' out out' : List ℕ) : Type 0 where
  pub tree : Statement
  pub sentence : Sentence text tree
  pub short : length text ≤ longest
  pub nodes_counted : m ≡ nodes_in_body tree
  pub statements_counted : i ≡ statements_in tree
  pub nodes_written : nodes' ≡ sets nodes 0 (node_bytes (made_nodes tree))
  pub written : out' ≡ sets out 0 (statement_bytes (made_statements tree))

-- "26, the text is over 65,535 bytes, no sentence of this grammar, has an empty statement list, a number out of range or a 17th level"; "A refused text writes nothing"
pub record Refused (text : List ℕ) (m i : ℕ) (nodes nodes' out out' : List ℕ) : Type 0 where
  pub no_sentence : (p : Statement) → Sentence text p → longest < length text
  pub nothing_counted : (m ≡ 0) × (i ≡ 0)
  pub nodes_kept : nodes' ≡ nodes
  pub kept : out' ≡ out

-- the text's meaning and that of the records that it makes are the same, whatever records are given
abbrev pub Meaning : List ℕ → Type 0
Meaning text = (p : Statement) (M : Model) → Sentence text p → Makes p M → SameMeaning M p

-- 0 or 26, and what follows of each; "A text has one reading."
pub record Read (text : List ℕ) (number m i : ℕ) (nodes nodes' out out' : List ℕ) : Type 0 where
  pub one_number : number ≢ 0 → number ≡ 26
  pub accepted : number ≡ 0 → Accepted text m i nodes nodes' out out'
  pub refused : number ≡ 26 → Refused text m i nodes nodes' out out'
  pub one_reading : OneReading text
  pub meaning : Meaning text

-- how many nodes and statements are told: none of a refused text
abbrev pub nodes_read : Result Counts Refusal → ℕ
nodes_read (Ok c) = c.nodes
nodes_read (Err r) = 0

abbrev pub statements_read : Result Counts Refusal → ℕ
statements_read (Ok c) = c.statements
statements_read (Err r) = 0
