-- What acceptance says of each part of a model, as plain facts: all that the layers above know of an accepted model.
use Rattle.std.specs.Prelude.{◌≡◌, true, ◌⊎◌, ℕ, ◌^◌, ◌≤◌, ◌<◌, length}
use Rattle.values.specs.Resolve.{pair_in, PairLaws}
use Rattle.blocks.specs.Records.{Model, signal_at, variable_at, driver_at, node_at, statement_at}
use Rattle.blocks.specs.declared.records.StatementRecord.{StatementRecord}
use Rattle.fields.specs.Fields.{absent, owner_of, value_ok}
use Rattle.fields.specs.Facts.{SignalFits, VariableFits, Spans, ProcessFits}
use Rattle.tables.specs.Tables.{table_of}
use Rattle.trees.specs.Trees.{integer, logic, boolean, size_of, type_of}
use Rattle.model.specs.Owners.{driver_for, reads_own}

-- the totals are within their limits
pub record TotalsFit (M : Model) : Type 0 where
  pub signals : length M.signals ≤ 32
  pub variables : length M.variables ≤ 64
  pub some_process : 1 ≤ length M.processes
  pub processes : length M.processes ≤ 16
  pub drivers : length M.drivers ≤ 64
  pub nodes : length M.nodes ≤ 400
  pub some_statement : 1 ≤ length M.statements
  pub statements : length M.statements ≤ 200

-- driver k names a process and a signal, and is the driver of that process for that signal
pub record DriverFits (M : Model) (k : ℕ) : Type 0 where
  pub process : (driver_at M k).process < length M.processes
  pub signal : (driver_at M k).signal < length M.signals
  pub found : driver_for M (driver_at M k).process (driver_at M k).signal ≡ k

-- driver k is that of process p for signal s
pub record Drives (M : Model) (p s k : ℕ) : Type 0 where
  pub process : (driver_at M k).process ≡ p
  pub signal : (driver_at M k).signal ≡ s

-- driver i stands before driver j: by process, then by signal
pub record PairsRise (M : Model) (i j : ℕ) : Type 0 where
  pub process : (driver_at M i).process ≤ (driver_at M j).process
  pub signal : (driver_at M i).process ≡ (driver_at M j).process → (driver_at M i).signal < (driver_at M j).signal

-- node n: its kind, what it names, its operands and its tree
pub record NodeFits (M : Model) (n : ℕ) : Type 0 where
  pub kind_least : 1 ≤ (node_at M n).kind
  pub kind_most : (node_at M n).kind ≤ 18
  pub constant : (node_at M n).kind ≤ 2 → value_ok (type_of M n) (node_at M n).k ≡ true
  pub variable : (node_at M n).kind ≡ 3 → (node_at M n).a < length M.variables
  pub signal : 4 ≤ (node_at M n).kind → (node_at M n).kind ≤ 5 → (node_at M n).a < length M.signals
  pub delay : (node_at M n).kind ≡ 5 → (node_at M n).k ≤ 31
  pub lower_a : 6 ≤ (node_at M n).kind → (node_at M n).a < n
  pub lower_b : 7 ≤ (node_at M n).kind → ((node_at M n).kind ≡ 10 → ⊥) → (node_at M n).b < n
  pub size : size_of M n ≤ 64

-- node n's type, and those of its operands
pub record NodeTyped (M : Model) (n : ℕ) : Type 0 where
  pub known : type_of M n ≤ 2
  pub integer_constant : (node_at M n).kind ≡ 1 → type_of M n ≡ integer
  pub logic_constant : (node_at M n).kind ≡ 2 → type_of M n ≡ logic
  pub variable : (node_at M n).kind ≡ 3 → type_of M n ≡ (variable_at M (node_at M n).a).ty
  pub signal : 4 ≤ (node_at M n).kind → (node_at M n).kind ≤ 5 → type_of M n ≡ (signal_at M (node_at M n).a).ty
  pub logical : 6 ≤ (node_at M n).kind → (node_at M n).kind ≤ 9 → 1 ≤ type_of M n
  pub logical_a : 6 ≤ (node_at M n).kind → (node_at M n).kind ≤ 9 → type_of M (node_at M n).a ≡ type_of M n
  pub logical_b : 7 ≤ (node_at M n).kind → (node_at M n).kind ≤ 9 → type_of M (node_at M n).b ≡ type_of M n
  -- 10 to 12 and 15 to 18, between which the two relations stand
  pub arithmetic : 10 ≤ (node_at M n).kind → ((node_at M n).kind ≡ 13 → ⊥) → ((node_at M n).kind ≡ 14 → ⊥) → type_of M n ≡ integer
  pub arithmetic_a : 10 ≤ (node_at M n).kind → ((node_at M n).kind ≡ 13 → ⊥) → ((node_at M n).kind ≡ 14 → ⊥) → type_of M (node_at M n).a ≡ integer
  pub arithmetic_b : 11 ≤ (node_at M n).kind → ((node_at M n).kind ≡ 13 → ⊥) → ((node_at M n).kind ≡ 14 → ⊥) → type_of M (node_at M n).b ≡ integer
  pub relation : 13 ≤ (node_at M n).kind → (node_at M n).kind ≤ 14 → type_of M n ≡ boolean
  pub relation_b : 13 ≤ (node_at M n).kind → (node_at M n).kind ≤ 14 → type_of M (node_at M n).b ≡ type_of M (node_at M n).a
  pub equal : (node_at M n).kind ≡ 13 → type_of M (node_at M n).a ≤ 1
  pub less : (node_at M n).kind ≡ 14 → type_of M (node_at M n).a ≡ integer

-- node n's tree reads variables of process p alone: what that says of the node and its operands
pub record Reads (M : Model) (p n : ℕ) : Type 0 where
  pub variable : (node_at M n).kind ≡ 3 → (variable_at M (node_at M n).a).process ≡ p
  pub own_a : 6 ≤ (node_at M n).kind → reads_own M p (node_at M n).a ≡ true
  pub own_b : 7 ≤ (node_at M n).kind → ((node_at M n).kind ≡ 10 → ⊥) → reads_own M p (node_at M n).b ≡ true

-- node n is an expression of the type that process p may work out
pub record Expression (M : Model) (p ty n : ℕ) : Type 0 where
  pub node : n < length M.nodes
  pub type : type_of M n ≡ ty
  pub own : reads_own M p n ≡ true

-- kind 1 of process p: variable a := b
pub record VariableAssignment (M : Model) (p : ℕ) (s : StatementRecord) : Type 0 where
  pub variable : s.a < length M.variables
  pub own : (variable_at M s.a).process ≡ p
  pub value : Expression M p (variable_at M s.a).ty s.b

-- kinds 2 and 7: signal a <= b after c
pub record SignalAssignment (M : Model) (p : ℕ) (s : StatementRecord) : Type 0 where
  pub signal : s.a < length M.signals
  pub driver : driver_for M p s.a < length M.drivers
  pub value : Expression M p (signal_at M s.a).ty s.b
  pub delay : Expression M p integer s.c

-- kind 3: unless b go to statement a
pub record Branch (M : Model) (p : ℕ) (s : StatementRecord) : Type 0 where
  pub target : Spans M p s.a
  pub condition : Expression M p boolean s.b

-- kind 5: wait on the set until b for c
pub record Wait (M : Model) (p : ℕ) (s : StatementRecord) : Type 0 where
  pub condition : (s.b ≡ absent → ⊥) → Expression M p boolean s.b
  pub delay : (s.c ≡ absent → ⊥) → Expression M p integer s.c
  pub set : s.set < 2 ^ length M.signals

-- kind 6: signal a <= null after c, on a bus or a register
pub record NullAssignment (M : Model) (p : ℕ) (s : StatementRecord) : Type 0 where
  pub signal : s.a < length M.signals
  pub guarded : 1 ≤ (signal_at M s.a).kind
  pub driver : driver_for M p s.a < length M.drivers
  pub delay : Expression M p integer s.c

-- a statement of process p, by its kind
pub record StatementFits (M : Model) (p : ℕ) (s : StatementRecord) : Type 0 where
  pub kind : s.kind ≤ 7
  pub variable_assignment : s.kind ≡ 1 → VariableAssignment M p s
  pub signal_assignment : (s.kind ≡ 2) ⊎ (s.kind ≡ 7) → SignalAssignment M p s
  pub branch : s.kind ≡ 3 → Branch M p s
  pub jump : s.kind ≡ 4 → Spans M p s.a
  pub wait : s.kind ≡ 5 → Wait M p s
  pub null_assignment : s.kind ≡ 6 → NullAssignment M p s

-- statement n belongs to a process, and fits it
pub record StatementOf (M : Model) (n : ℕ) : Type 0 where
  pub owner : owner_of M n < length M.processes
  pub spans : Spans M (owner_of M n) n
  pub fits : StatementFits M (owner_of M n) (statement_at M n)

-- an accepted model
pub record Facts (M : Model) : Type 0 where
  pub totals : TotalsFit M
  -- the order of two values, and the grouping of three, is free in its pair table
  pub pairs : PairLaws (pair_in (table_of M))
  pub signal : (n : ℕ) → n < length M.signals → SignalFits M n
  pub variable : (n : ℕ) → n < length M.variables → VariableFits M n
  pub process : (p : ℕ) → p < length M.processes → ProcessFits M p
  pub driver : (k : ℕ) → k < length M.drivers → DriverFits M k
  pub drives : (p s : ℕ) → driver_for M p s < length M.drivers → Drives M p s (driver_for M p s)
  pub rise : (i j : ℕ) → i < j → j < length M.drivers → PairsRise M i j
  pub single : (i j : ℕ) → i < length M.drivers → j < length M.drivers → (driver_at M i).signal ≡ (driver_at M j).signal → (signal_at M (driver_at M i).signal).ty ≡ integer → i ≡ j
  pub node : (n : ℕ) → n < length M.nodes → NodeFits M n
  pub typed : (n : ℕ) → n < length M.nodes → NodeTyped M n
  pub reads : (p n : ℕ) → n < length M.nodes → reads_own M p n ≡ true → Reads M p n
  pub statement : (n : ℕ) → n < length M.statements → StatementOf M n
