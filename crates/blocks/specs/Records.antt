-- The seven kinds of records of 12 bytes, and the model that the blocks hold.
-- 1. Signal: byte 0 type (0 integer, 1 logic); byte 1 its kind ("0 plain, 1 bus, 2 register"); 4-7 signed starting value.
-- 2. Variable: type (2 boolean, 0 or 1, allowed too); byte 1 its process; 4-7 starting value.
-- 3. Process: 0-1 first statement; 2-3 how many.
-- 4. Driver: byte 0 process, byte 1 signal.
-- 5. Expression node: byte 0 kind; 2-3 a; 4-5 b; 8-11 signed constant k.
-- 6. Statement: byte 0 kind; 2-3 a; 4-5 b; 6-7 c; 8-11 a set of signals, bit n for signal n.
-- 7. Row of the model's own pair table: "byte 0-8 a row of codes, 9-11 zero".
-- Signed fields are held as their 32 bits. `zeros` says that the bytes which a record does not name are zero.
use Rattle.std.specs.Prelude.{ℕ, ◌+◌, Bool, false, ◌&&◌, List, [], map, eqb, get_or}
use Rattle.base.specs.Below.{all_below, list_below}
use Rattle.base.specs.Bytes.{byte_at, word_at, long_at}
use Rattle.blocks.specs.Blocks.{starts_of, part_at}
use Rattle.blocks.specs.declared.records.SignalRecord.{SignalRecord}
use Rattle.blocks.specs.declared.records.VariableRecord.{VariableRecord}
use Rattle.blocks.specs.declared.records.ProcessRecord.{ProcessRecord}
use Rattle.blocks.specs.declared.records.DriverRecord.{DriverRecord}
use Rattle.blocks.specs.declared.records.NodeRecord.{NodeRecord}
use Rattle.blocks.specs.declared.records.StatementRecord.{StatementRecord}
use Rattle.blocks.specs.declared.records.RowRecord.{RowRecord}

-- the n bytes from i on are zero
unfoldable pub zeros_at : List ℕ → ℕ → ℕ → Bool
zeros_at r i n = all_below (λ j. eqb (byte_at r (i + j)) 0) n

-- kinds of a signal
abbrev pub plain : ℕ
plain = 0

abbrev pub bus : ℕ
bus = 1

abbrev pub register : ℕ
register = 2

unfoldable pub signal_of : List ℕ → SignalRecord
signal_of r = record { ty = byte_at r 0; kind = byte_at r 1; start = long_at r 4; zeros = zeros_at r 2 2 && zeros_at r 8 4 }

unfoldable pub variable_of : List ℕ → VariableRecord
variable_of r = record { ty = byte_at r 0; process = byte_at r 1; start = long_at r 4; zeros = zeros_at r 2 2 && zeros_at r 8 4 }

unfoldable pub process_of : List ℕ → ProcessRecord
process_of r = record { first = word_at r 0; count = word_at r 2; zeros = zeros_at r 4 8 }

unfoldable pub driver_of : List ℕ → DriverRecord
driver_of r = record { process = byte_at r 0; signal = byte_at r 1; zeros = zeros_at r 2 10 }

unfoldable pub node_of : List ℕ → NodeRecord
node_of r = record { kind = byte_at r 0; a = word_at r 2; b = word_at r 4; k = long_at r 8; zeros = zeros_at r 1 1 && zeros_at r 6 2 }

unfoldable pub statement_of : List ℕ → StatementRecord
statement_of r = record { kind = byte_at r 0; a = word_at r 2; b = word_at r 4; c = word_at r 6; set = long_at r 8; zeros = zeros_at r 1 1 }

unfoldable pub row_of : List ℕ → RowRecord
row_of r = record { codes = list_below (byte_at r) 9; zeros = zeros_at r 9 3 }

-- "a model (signals, variables, processes, drivers, expressions, statements)", and "A model may carry record kind 7"
pub record Model : Type 0 where
  pub signals : List SignalRecord
  pub variables : List VariableRecord
  pub processes : List ProcessRecord
  pub drivers : List DriverRecord
  pub nodes : List NodeRecord
  pub statements : List StatementRecord
  pub rows : List RowRecord

-- the records of kind k over all blocks, in order
unfoldable pub records_of : {A : Type 0} → (List ℕ → A) → ℕ → List ℕ → List A
records_of read k m = map (λ start. read (part_at m start)) (starts_of k m)

-- the model that the bytes hold
unfoldable pub model_of : List ℕ → Model
model_of m =
    record {
      signals = records_of signal_of 1 m;
      variables = records_of variable_of 2 m;
      processes = records_of process_of 3 m;
      drivers = records_of driver_of 4 m;
      nodes = records_of node_of 5 m;
      statements = records_of statement_of 6 m;
      rows = records_of row_of 7 m;
    }

-- record n of each kind, and what stands for one that is not there
abbrev pub signal_at : Model → ℕ → SignalRecord
signal_at M n = get_or M.signals n (record { ty = 0; kind = 0; start = 0; zeros = false })

abbrev pub variable_at : Model → ℕ → VariableRecord
variable_at M n = get_or M.variables n (record { ty = 0; process = 0; start = 0; zeros = false })

abbrev pub process_at : Model → ℕ → ProcessRecord
process_at M n = get_or M.processes n (record { first = 0; count = 0; zeros = false })

abbrev pub driver_at : Model → ℕ → DriverRecord
driver_at M n = get_or M.drivers n (record { process = 0; signal = 0; zeros = false })

abbrev pub node_at : Model → ℕ → NodeRecord
node_at M n = get_or M.nodes n (record { kind = 0; a = 0; b = 0; k = 0; zeros = false })

abbrev pub statement_at : Model → ℕ → StatementRecord
statement_at M n = get_or M.statements n (record { kind = 0; a = 0; b = 0; c = 0; set = 0; zeros = false })

abbrev pub row_at : Model → ℕ → RowRecord
row_at M n = get_or M.rows n (record { codes = []; zeros = false })
