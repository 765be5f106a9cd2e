-- Records are read back from their bytes. A word's two bytes say any number, so that of the fields only the kind must be below 256.
-- Assumes nothing.
use mathlib.Core.Path.{◌≡◌, refl, ap}
use mathlib.Core.Bool.{true}
use mathlib.Core.List.{List, [], ◌∷◌, ◌++◌}
use Prim.Native.Nat.{ℕ, suc, ◌+◌, ◌*◌, ◌/◌, ◌%◌, ◌<◌}
use native.Mathlib.Omega.{arith}
use lib.ListN.{length, length-append}
use lib.Seq.{take_at, drop-append-add}
use Rattle.base.specs.Below.{All, all_below, list_below}
use Rattle.base.proofs.Below.{list_none, list_first, list_same}
use Rattle.blocks.specs.Blocks.{part_at}
use Rattle.blocks.specs.Records.{zeros_at, process_of, node_of, statement_of}
use Rattle.blocks.specs.declared.records.NodeRecord.{NodeRecord}
use Rattle.blocks.specs.declared.records.StatementRecord.{StatementRecord}
use Rattle.packing.specs.Packed.{records_in}
use Rattle.writing.specs.Written.{word_bytes, record_bytes, node_bytes, statement_bytes}
use Rattle.grammar.specs.Grammar.{Statement, Sentence}
use Rattle.grammar.specs.Made.{made_nodes, made_statements}
use Rattle.given.proofs.NodeKinds.{NodeFits, StatementFits, nodes_fit, statements_fit}

-- the records in 12 bytes and those behind them
module _ {A : Type 0} (read : List ℕ → A) where
  pub none_in : records_in read [] ≡ []
  unfolding records_in
  none_in = list_none _

  pub records_first : (r rest : List ℕ) → length r ≡ 12 → records_in read (r ++ rest) ≡ read r ∷ records_in read rest
  unfolding records_in
  records_first r rest e =
      let n : length (r ++ rest) / 12 ≡ suc (length rest / 12) = rw (length-append, e) (omega arith) in
      let first : part_at (r ++ rest) 0 ≡ r = take_at r rest 12 e in
      let later : (j : ℕ) → part_at (r ++ rest) (12 * suc j) ≡ part_at rest (12 * j) =
      λ j. let p : 12 * suc j ≡ length r + 12 * j = omega arith in rw (p, drop-append-add) in
      rw (n, list_first, first, list_same (λ j. read (part_at (r ++ rest) (12 * suc j))) (λ j. read (part_at rest (12 * j))) (length rest / 12) (λ j l. ap read (later j)))

-- words and longs from their bytes
word_back : (w : ℕ) → w % 256 + 256 * (w / 256) ≡ w
word_back w = omega arith

long_back : (l : ℕ) → l % 65536 % 256 + 256 * (l % 65536 / 256) + 65536 * (l / 65536 % 256 + 256 * (l / 65536 / 256)) ≡ l
long_back l = omega (arith, word_back (l % 65536), word_back (l / 65536))

-- a kind below 256 is its first byte, and its second is zero
module _ {kind : ℕ} (h : kind < 256) where
  kind_back : kind % 256 ≡ kind
  kind_back = omega arith

  no_more : kind / 256 ≡ 0
  no_more = omega arith

-- each record from its 12 bytes
node_back : (d : NodeRecord) → NodeFits d → node_of (record_bytes d.kind d.a d.b 0 d.k) ≡ d
unfolding node_of record_bytes word_bytes zeros_at all_below
node_back d (h, z) = rw (kind_back h, no_more h, word_back d.a, word_back d.b, long_back d.k, ← z)

statement_back : (s : StatementRecord) → StatementFits s → statement_of (record_bytes s.kind s.a s.b s.c s.set) ≡ s
unfolding statement_of record_bytes word_bytes zeros_at all_below
statement_back s (h, z) = rw (kind_back h, no_more h, word_back s.a, word_back s.b, word_back s.c, long_back s.set, ← z)

pub process_back : (c : ℕ) → records_in process_of (record_bytes 0 c 0 0 0) ≡ record { first = 0; count = c; zeros = true } ∷ []
unfolding records_in list_below process_of record_bytes word_bytes zeros_at all_below
process_back c = rw (word_back c)

-- and each list of them
pub length_record : (kind a b c l : ℕ) → length (record_bytes kind a b c l) ≡ 12
unfolding record_bytes word_bytes
length_record kind a b c l = refl

nodes_in_lem : (ds : List NodeRecord) → All NodeFits ds → records_in node_of (node_bytes ds) ≡ ds
unfolding node_bytes
nodes_in_lem [] h = none_in node_of
nodes_in_lem (d ∷ ds) (h, k) = rw (records_first node_of _ (node_bytes ds) (length_record d.kind d.a d.b 0 d.k), node_back d h, nodes_in_lem ds k)

statements_in_lem : (ss : List StatementRecord) → All StatementFits ss → records_in statement_of (statement_bytes ss) ≡ ss
unfolding statement_bytes
statements_in_lem [] h = none_in statement_of
statements_in_lem (s ∷ ss) (h, k) = rw (records_first statement_of _ (statement_bytes ss) (length_record s.kind s.a s.b s.c s.set), statement_back s h, statements_in_lem ss k)

-- those that a text makes
pub nodes_back : (text : List ℕ) (p : Statement) → Sentence text p → records_in node_of (node_bytes (made_nodes p)) ≡ made_nodes p
nodes_back text p h = nodes_in_lem (made_nodes p) (nodes_fit text p h)

pub statements_back : (p : Statement) → records_in statement_of (statement_bytes (made_statements p)) ≡ made_statements p
statements_back p = statements_in_lem (made_statements p) (statements_fit 0 0 p)
