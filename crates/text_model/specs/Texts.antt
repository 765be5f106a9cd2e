-- What a text comes to with the records that are given with it (document 02, item 12).
use Rattle.std.specs.Prelude.{◌≡◌, true, Result, Ok, Err, List, ◌≢◌, ℕ, ◌*◌, ◌≤◌, ◌<◌, length}
use Rattle.std.proofs.lemmas.List.Edits.{sets}
use Rattle.base.specs.declared.refusal.Refusal.{Refusal}
use Rattle.text_model.specs.declared.Report.{Report}
use Rattle.base.specs.Rules.{first_failing}
use Rattle.blocks.specs.Records.{model_of}
use Rattle.model.specs.Rules.{refusal_of}
use Rattle.grammar.specs.Grammar.{Statement, Sentence, OneReading}
use Rattle.grammar.specs.Made.{made_nodes, made_statements}
use Rattle.packing.specs.Packed.{packed}
use Rattle.given.specs.Given.{signals_given, variables_given, drivers_given, whole_ok, model_from, parts_from, rules_with}
use Rattle.reader.specs.Reading.{longest}
use Rattle.body_meaning.specs.Meaning.{SameMeaning}

-- the model's blocks: the given records, one process, and the text's nodes and statements
abbrev pub model_bytes : List ℕ → Statement → List ℕ
model_bytes g p = packed (parts_from g p)

-- the most blocks: 32 signals, 64 variables, 1 process, 64 drivers, 400 nodes and 200 statements, 42 to a block
abbrev pub most_blocks : ℕ
most_blocks = 21

-- the program's rooms: one byte more than the longest text, and than three numbers of 255 records; and the most blocks
abbrev pub text_room : ℕ
text_room = 65536

abbrev pub records_room : ℕ
records_room = 9184

abbrev pub model_room : ℕ
model_room = 10752

-- the given records are all there, and within the limits of their kinds
pub record GivenFits (g : List ℕ) : Type 0 where
  pub whole : whole_ok g ≡ true
  pub signals : signals_given g ≤ 32
  pub variables : variables_given g ≤ 64
  pub drivers : drivers_given g ≤ 64

-- A text that is taken: how many nodes and statements it makes and how many blocks the model has, which stand at the front of the buffer, as far
-- as that reaches.
pub record Accepted (text g : List ℕ) (m i b : ℕ) (old new : List ℕ) : Type 0 where
  pub tree : Statement
  pub sentence : Sentence text tree
  pub nodes_counted : m ≡ length (made_nodes tree)
  pub statements_counted : i ≡ length (made_statements tree)
  pub blocks_counted : 512 * b ≡ length (model_bytes g tree)
  pub few : b ≤ most_blocks
  pub written : new ≡ sets old 0 (model_bytes g tree)
  -- the blocks hold the given and the made records, and break no rule
  pub holds : model_of (model_bytes g tree) ≡ model_from g tree
  pub playable : refusal_of (model_bytes g tree) ≡ 0
  -- "the text's meaning reaches a wait or a fault exactly when the made records do"
  pub meaning : SameMeaning (model_from g tree) tree

-- "A refused text writes nothing."
pub record Refused (m i b : ℕ) (old new : List ℕ) : Type 0 where
  pub nothing_counted : (m ≡ 0) × (i ≡ 0) × (b ≡ 0)
  pub kept : new ≡ old

-- the number, and what follows of it. A sentence gets the first number that applies from 27 on, anything else 26.
pub record Taken (text g : List ℕ) (number m i b : ℕ) (old new : List ℕ) : Type 0 where
  pub no_sentence : ((p : Statement) → Sentence text p → longest < length text) → number ≡ 26
  pub sentence : (p : Statement) → Sentence text p → length text ≤ longest → number ≡ first_failing (rules_with text g p)
  pub accepted : number ≡ 0 → Accepted text g m i b old new
  pub refused : number ≢ 0 → Refused m i b old new
  pub one_reading : OneReading text

-- how many nodes, statements and blocks are told: none of a refused text
abbrev pub nodes_taken : Result Report Refusal → ℕ
nodes_taken (Ok r) = r.nodes
nodes_taken (Err e) = 0

abbrev pub statements_taken : Result Report Refusal → ℕ
statements_taken (Ok r) = r.statements
statements_taken (Err e) = 0

abbrev pub blocks_taken : Result Report Refusal → ℕ
blocks_taken (Ok r) = r.blocks
blocks_taken (Err e) = 0
