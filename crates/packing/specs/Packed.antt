-- Records put into blocks (document 01, "Model blocks"): each kind in blocks of its own, all full but the last of a kind.
use Rattle.std.specs.Prelude.{◌≡◌, List, [], ◌∷◌, ◌++◌, ℕ, ◌+◌, ◌*◌, ◌/◌, ◌%◌, ◌-◌, ◌≤◌, length, take, drop}
use Rattle.std.proofs.lemmas.List.Edits.{sets}
use Rattle.base.specs.Below.{sum_below, list_below}
use Rattle.base.specs.Bytes.{byte_at}
use Rattle.base.specs.Cases.{◌∣◌, ◌⇒◌, ◌is◌⇒◌}
use Rattle.blocks.specs.Blocks.{part_at}
use Rattle.blocks.specs.Records.{Model, signal_of, variable_of, process_of, driver_of, node_of, statement_of}
use Rattle.writing.specs.Written.{word_bytes}

-- what a block holds: the kind of its records, and their bytes, 12 each
pub record Page : Type 0 where
  pub kind : ℕ
  pub bytes : List ℕ

-- "0-1 its number from 0; 2 the record kind; 3 the record count (0 to 42); from 4 on, records of 12 bytes; the bytes after them up to 509
-- zero": byte i of block b
unfoldable pub block_byte : ℕ → Page → ℕ → ℕ
block_byte b p i =
    i is 0 ⇒ b % 256
    ∣ i is 1 ⇒ b / 256
    ∣ i is 2 ⇒ p.kind
    ∣ i is 3 ⇒ length p.bytes / 12
    ∣ byte_at p.bytes (i - 4)

-- the sum of the first 255 words of block b
unfoldable pub words_of : ℕ → Page → ℕ
words_of b p = sum_below (λ i. block_byte b p (2 * i) + 256 * block_byte b p (2 * i + 1)) 255

-- "510-511 chosen so that the 256 16-bit words sum to 1 modulo 65,536"
unfoldable pub last_word : ℕ → Page → ℕ
last_word b p = (65537 - words_of b p % 65536) % 65536

unfoldable pub block_of : ℕ → Page → List ℕ
block_of b p = list_below (block_byte b p) 510 ++ word_bytes (last_word b p)

-- blocks one behind the other, numbered from b on
unfoldable pub blocks_from : ℕ → List Page → List ℕ
blocks_from b [] = []
blocks_from b (p ∷ ps) = block_of b p ++ blocks_from (b + 1) ps

-- how many blocks n records need, 42 to a block
abbrev pub blocks_for : ℕ → ℕ
blocks_for n = (n + 41) / 42

-- what block j of a kind holds, r being the bytes of all records of the kind
abbrev pub page_of : ℕ → List ℕ → ℕ → Page
page_of kind r j = record { kind = kind; bytes = take 504 (drop (504 * j) r) }

-- the records of a kind, cut into blocks
unfoldable pub pages_of : ℕ → List ℕ → List Page
pages_of kind r = list_below (page_of kind r) (blocks_for (length r / 12))

-- the records that bytes hold one behind the other, 12 each
unfoldable pub records_in : {A : Type 0} → (List ℕ → A) → List ℕ → List A
records_in read r = list_below (λ n. read (part_at r (12 * n))) (length r / 12)

-- the bytes of each kind's records: signals, variables, processes, drivers, nodes, statements
pub record Parts : Type 0 where
  pub signals : List ℕ
  pub variables : List ℕ
  pub processes : List ℕ
  pub drivers : List ℕ
  pub nodes : List ℕ
  pub statements : List ℕ

-- the model that they hold; it has no pair table of its own
unfoldable pub model_in : Parts → Model
model_in s =
    record {
      signals = records_in signal_of s.signals;
      variables = records_in variable_of s.variables;
      processes = records_in process_of s.processes;
      drivers = records_in driver_of s.drivers;
      nodes = records_in node_of s.nodes;
      statements = records_in statement_of s.statements;
      rows = [];
    }

-- "Kinds never fall from block to block"
unfoldable pub pages : Parts → List Page
pages s =
    pages_of 1 s.signals
    ++ (pages_of 2 s.variables
    ++ (pages_of 3 s.processes
    ++ (pages_of 4 s.drivers
    ++ (pages_of 5 s.nodes
    ++ pages_of 6 s.statements))))

-- the model's bytes
unfoldable pub packed : Parts → List ℕ
packed s = blocks_from 0 (pages s)

-- how many blocks they need
abbrev pub blocks_in : Parts → ℕ
blocks_in s =
    blocks_for (length s.signals / 12)
    + (blocks_for (length s.variables / 12)
    + (blocks_for (length s.processes / 12)
    + (blocks_for (length s.drivers / 12)
    + (blocks_for (length s.nodes / 12) + blocks_for (length s.statements / 12)))))

-- a buffer has room for the blocks, and their numbers have two bytes
pub record Room (s : Parts) (out : List ℕ) : Type 0 where
  pub fits : 512 * blocks_in s ≤ length out
  pub most : blocks_in s ≤ 65536

-- n blocks stand at the front of the buffer
pub record PackedIn (s : Parts) (out out' : List ℕ) (n : ℕ) : Type 0 where
  pub blocks : n ≡ blocks_in s
  pub written : out' ≡ sets out 0 (packed s)
