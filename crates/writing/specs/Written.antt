-- Node and statement records as bytes, one behind the other in a buffer.
-- "5. Expression node: byte 0 kind; 2-3 a; 4-5 b; 8-11 signed constant k. 6. Statement: byte 0 kind; 2-3 a; 4-5 b; 6-7 c; 8-11 a set of signals";
-- fields that they do not name are zero.
use Rattle.std.specs.Prelude.{List, [], ◌∷◌, ◌++◌, ℕ, ◌/◌, ◌%◌}
use Rattle.blocks.specs.declared.records.NodeRecord.{NodeRecord}
use Rattle.blocks.specs.declared.records.StatementRecord.{StatementRecord}

-- 16 bits, little endian
unfoldable pub word_bytes : ℕ → List ℕ
word_bytes w = w % 256 ∷ w / 256 ∷ []

-- 12 bytes: a kind below 256, a, b, c, and 32 bits
unfoldable pub record_bytes : ℕ → ℕ → ℕ → ℕ → ℕ → List ℕ
record_bytes kind a b c l =
    word_bytes kind ++ (word_bytes a ++ (word_bytes b ++ (word_bytes c ++ (word_bytes (l % 65536) ++ word_bytes (l / 65536)))))

unfoldable pub node_bytes : List NodeRecord → List ℕ
node_bytes [] = []
node_bytes (d ∷ ds) = record_bytes d.kind d.a d.b 0 d.k ++ node_bytes ds

unfoldable pub statement_bytes : List StatementRecord → List ℕ
statement_bytes [] = []
statement_bytes (s ∷ ss) = record_bytes s.kind s.a s.b s.c s.set ++ statement_bytes ss
