-- Records, blocks and orders, written with their fields in the paper's order.
use Rattle.std.specs.Prelude.{◌≡◌, Bool, true, ◌&&◌, List, [], ◌∷◌, ◌++◌, ℕ, zero, suc, ◌*◌, ◌-◌, ◌<◌, ltb, get_or, replicate}
use Rattle.std.proofs.Common.{arith, ltb-true}
use Rattle.base.proofs.Below.{and_left, and_right}
use Rattle.blocks.specs.declared.records.SignalRecord.{SignalRecord}
use Rattle.blocks.specs.declared.records.VariableRecord.{VariableRecord}
use Rattle.blocks.specs.declared.records.ProcessRecord.{ProcessRecord}
use Rattle.blocks.specs.declared.records.DriverRecord.{DriverRecord}
use Rattle.blocks.specs.declared.records.NodeRecord.{NodeRecord}
use Rattle.blocks.specs.declared.records.StatementRecord.{StatementRecord}
use Rattle.session.specs.Lists.{Order}
use Rattle.session.specs.Demand3.{Bytes}

-- records
abbrev pub signal : ℕ → ℕ → ℕ → SignalRecord
signal ty kind start = record { ty = ty; kind = kind; start = start; zeros = true }

abbrev pub variable : ℕ → ℕ → ℕ → VariableRecord
variable ty process start = record { ty = ty; process = process; start = start; zeros = true }

abbrev pub process : ℕ → ℕ → ProcessRecord
process from count = record { first = from; count = count; zeros = true }

abbrev pub driver : ℕ → ℕ → DriverRecord
driver process signal = record { process = process; signal = signal; zeros = true }

abbrev pub node : ℕ → ℕ → ℕ → ℕ → NodeRecord
node kind a b k = record { kind = kind; a = a; b = b; k = k; zeros = true }

abbrev pub statement : ℕ → ℕ → ℕ → ℕ → ℕ → StatementRecord
statement kind a b c set = record { kind = kind; a = a; b = b; c = c; set = set; zeros = true }

-- orders
abbrev pub pick_order : ℕ → Order
pick_order p = record { kind = 1; argument = p; count = 0 }

abbrev pub settle_order : ℕ → Order
settle_order n = record { kind = 3; argument = 0; count = n }

abbrev pub read_order : ℕ → Order
read_order s = record { kind = 4; argument = s; count = 0 }

abbrev pub delta_step_order : Order
delta_step_order = record { kind = 6; argument = 0; count = 0 }

abbrev pub time_step_order : Order
time_step_order = record { kind = 7; argument = 0; count = 0 }

-- a block: its number, its kind, its records, and the two bytes of its sum
abbrev pub block : ℕ → ℕ → ℕ → List ℕ → ℕ → ℕ → List ℕ
block n kind count records low high = n ∷ 0 ∷ kind ∷ count ∷ records ++ (replicate (506 - 12 * count) 0 ++ (low ∷ high ∷ []))

-- bytes: each number is below 256
abbrev pub are_bytes : List ℕ → Bool
are_bytes [] = true
are_bytes (x ∷ l) = ltb x 256 && are_bytes l

pub small_at : (l : List ℕ) → are_bytes l ≡ true → (i : ℕ) → get_or l i 0 < 256
small_at [] h i = omega arith
small_at (x ∷ l) h zero = ltb-true x 256 (and_left (ltb x 256) (are_bytes l) h)
small_at (x ∷ l) h (suc i) = small_at l (and_right (ltb x 256) (are_bytes l) h) i

abbrev pub as_bytes : (l : List ℕ) → are_bytes l ≡ true → Bytes
as_bytes l h = record { bytes = l; small = small_at l h }
