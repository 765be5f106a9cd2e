-- The laws of records: a field lies within the 12 bytes, and what was read field by field is the record. Assumes nothing.
use mathlib.Core.Path.{◌≡◌}
use mathlib.Core.Bool.{Bool, ◌&&◌}
use mathlib.Core.List.{List}
use Prim.Native.Nat.{ℕ, ◌≤◌, ◌<◌}
use lib.Dec.{T, leb, ltb, lit<, lit≤}
use Rattle.base.specs.Bytes.{ByteIs, WordIs, LongIs}
use Rattle.blocks.specs.Records.{zeros_at, signal_of, variable_of, process_of, driver_of, node_of, statement_of}
use Rattle.blocks.specs.declared.records.SignalRecord.{SignalRecord}
use Rattle.blocks.specs.declared.records.VariableRecord.{VariableRecord}
use Rattle.blocks.specs.declared.records.ProcessRecord.{ProcessRecord}
use Rattle.blocks.specs.declared.records.DriverRecord.{DriverRecord}
use Rattle.blocks.specs.declared.records.NodeRecord.{NodeRecord}
use Rattle.blocks.specs.declared.records.StatementRecord.{StatementRecord}

-- l is the length of a record's part
module _ (l : ℕ) (e : l ≡ 12) where
  pub within : (i : ℕ) → T (ltb i 12) → i < l
  within i t = rw e (lit< t)

  pub up_to : (i : ℕ) → T (leb i 12) → i ≤ l
  up_to i t = rw e (lit≤ t)

module _ (r : List ℕ) where
  pub signal_is : {ty kind start : ℕ} {x y : Bool} → ByteIs r 0 ty → ByteIs r 1 kind → LongIs r 4 start → x ≡ zeros_at r 2 2 → y ≡ zeros_at r 8 4 → ◌≡◌ {A = SignalRecord} (record { ty = ty; kind = kind; start = start; zeros = x && y }) (signal_of r)
  unfolding signal_of
  signal_is a b d p q = rw (a.value, b.value, d.value, p, q)

  pub variable_is : {ty process start : ℕ} {x y : Bool} → ByteIs r 0 ty → ByteIs r 1 process → LongIs r 4 start → x ≡ zeros_at r 2 2 → y ≡ zeros_at r 8 4 → ◌≡◌ {A = VariableRecord} (record { ty = ty; process = process; start = start; zeros = x && y }) (variable_of r)
  unfolding variable_of
  variable_is a b d p q = rw (a.value, b.value, d.value, p, q)

  pub process_is : {first count : ℕ} {x : Bool} → WordIs r 0 first → WordIs r 2 count → x ≡ zeros_at r 4 8 → ◌≡◌ {A = ProcessRecord} (record { first = first; count = count; zeros = x }) (process_of r)
  unfolding process_of
  process_is a b p = rw (a.value, b.value, p)

  pub driver_is : {process signal : ℕ} {x : Bool} → ByteIs r 0 process → ByteIs r 1 signal → x ≡ zeros_at r 2 10 → ◌≡◌ {A = DriverRecord} (record { process = process; signal = signal; zeros = x }) (driver_of r)
  unfolding driver_of
  driver_is a b p = rw (a.value, b.value, p)

  pub node_is : {kind a b k : ℕ} {x y : Bool} → ByteIs r 0 kind → WordIs r 2 a → WordIs r 4 b → LongIs r 8 k → x ≡ zeros_at r 1 1 → y ≡ zeros_at r 6 2 → ◌≡◌ {A = NodeRecord} (record { kind = kind; a = a; b = b; k = k; zeros = x && y }) (node_of r)
  unfolding node_of
  node_is a b d e p q = rw (a.value, b.value, d.value, e.value, p, q)

  pub statement_is : {kind a b c set : ℕ} {x : Bool} → ByteIs r 0 kind → WordIs r 2 a → WordIs r 4 b → WordIs r 6 c → LongIs r 8 set → x ≡ zeros_at r 1 1 → ◌≡◌ {A = StatementRecord} (record { kind = kind; a = a; b = b; c = c; set = set; zeros = x }) (statement_of r)
  unfolding statement_of
  statement_is a b d e f p = rw (a.value, b.value, d.value, e.value, f.value, p)
