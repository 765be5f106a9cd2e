-- What rule 5 says of signals, variables and processes, as plain facts.
use Rattle.std.specs.Prelude.{◌≡◌, true, ℕ, ◌+◌, ◌≤◌, ◌<◌, length}
use Rattle.blocks.specs.Records.{Model, signal_at, variable_at, process_at}
use Rattle.fields.specs.Fields.{end_of, owner_of, value_ok}

-- signal n: its type, a starting value of that type, and a bus or a register is a logic signal
pub record SignalFits (M : Model) (n : ℕ) : Type 0 where
  pub ty : (signal_at M n).ty ≤ 1
  pub start : value_ok (signal_at M n).ty (signal_at M n).start ≡ true
  pub guarded : 1 ≤ (signal_at M n).kind → (signal_at M n).ty ≡ 1

-- variable n: its type, a starting value of that type, and its process
pub record VariableFits (M : Model) (n : ℕ) : Type 0 where
  pub ty : (variable_at M n).ty ≤ 2
  pub start : value_ok (variable_at M n).ty (variable_at M n).start ≡ true
  pub process : (variable_at M n).process < length M.processes

-- statement i belongs to process p
pub record Spans (M : Model) (p i : ℕ) : Type 0 where
  pub from : (process_at M p).first ≤ i
  pub below : i < end_of M p

-- process p: its statements are there and are its own; the first is one of them, and so is the next of each but the last
pub record ProcessFits (M : Model) (p : ℕ) : Type 0 where
  pub some : 1 ≤ (process_at M p).count
  pub within : end_of M p ≤ length M.statements
  pub owner : (i : ℕ) → Spans M p i → owner_of M i ≡ p
  pub first : Spans M p (process_at M p).first
  pub next : (i : ℕ) → Spans M p i → i + 1 < end_of M p → Spans M p (i + 1)
