-- Refusals 4 and 5: totals, and the fields of each record.
use Rattle.std.specs.Prelude.{ℕ, zero, suc, ◌+◌, ◌-◌, ◌^◌, Bool, false, not, ◌&&◌, ◌||◌, [], ◌∷◌, eqb, leb, ltb, length, get_or}
use Rattle.base.specs.Below.{all_below, every}
use Rattle.base.specs.Cases.{◌∣◌, ◌⇒◌, ◌is◌⇒◌}
use Rattle.base.specs.Course.{first_with}
use Rattle.blocks.specs.Records.{plain, register, Model, signal_at, variable_at, process_at, driver_at, node_at, statement_at, row_at}
use Rattle.blocks.specs.declared.records.SignalRecord.{SignalRecord}
use Rattle.blocks.specs.declared.records.VariableRecord.{VariableRecord}
use Rattle.blocks.specs.declared.records.DriverRecord.{DriverRecord}
use Rattle.blocks.specs.declared.records.NodeRecord.{NodeRecord}
use Rattle.blocks.specs.declared.records.StatementRecord.{StatementRecord}
use Rattle.blocks.specs.declared.records.RowRecord.{RowRecord}

-- 5. "A record field is outside its values, not zero though unnamed, names nothing, breaks the rule of process spans, or
-- jumps out of its process (operands of kinds 6 to 14 aside)." Item 2 of document 02: the operands of kinds 15 to 18 too

-- 32 bits that are a value of the type: 0 an integer ("from -2,147,483,647 to 2,147,483,647"), 1 a logic code, 2 a boolean
unfoldable pub value_ok : ℕ → ℕ → Bool
value_ok ty x =
    ty is 0 ⇒ not (eqb x 2147483648)
    ∣ ty is 1 ⇒ leb x 8
    ∣ ty is 2 ⇒ leb x 1
    ∣ false

-- "Byte 1 of a signal record becomes 0 plain, 1 bus, 2 register; 1 and 2 are for logic signals only"
unfoldable pub signal_ok : SignalRecord → Bool
signal_ok s =
    every
    (leb s.ty 1
    ∷ leb s.kind register
    ∷ (eqb s.kind plain || eqb s.ty 1)
    ∷ value_ok s.ty s.start
    ∷ s.zeros
    ∷ [])

unfoldable pub variable_ok : Model → VariableRecord → Bool
variable_ok M v = every (value_ok v.ty v.start ∷ ltb v.process (length M.processes) ∷ v.zeros ∷ [])

-- where process p ends: one past its last statement
abbrev pub end_of : Model → ℕ → ℕ
end_of M p = (process_at M p).first + (process_at M p).count

-- where process p has to start: "Process 0 starts at statement 0, each next where the last ended"
abbrev pub due_start : Model → ℕ → ℕ
due_start M zero = 0
due_start M (suc p) = end_of M p

unfoldable pub process_ok : Model → ℕ → Bool
process_ok M p = every (eqb (process_at M p).first (due_start M p) ∷ leb 1 (process_at M p).count ∷ (process_at M p).zeros ∷ [])

-- "and all statements are covered"
unfoldable pub covered : Model → Bool
covered M = eqb (end_of M (length M.processes - 1)) (length M.statements)

unfoldable pub driver_ok : Model → DriverRecord → Bool
driver_ok M d = every (ltb d.process (length M.processes) ∷ ltb d.signal (length M.signals) ∷ d.zeros ∷ [])

-- the fields by the node's kind; operands of kinds 6 to 18 are left to 6
unfoldable pub node_ok : Model → NodeRecord → Bool
node_ok M d =
    d.kind is 1 ⇒ every (eqb d.a 0 ∷ eqb d.b 0 ∷ value_ok 0 d.k ∷ d.zeros ∷ [])
    ∣ d.kind is 2 ⇒ every (eqb d.a 0 ∷ eqb d.b 0 ∷ value_ok 1 d.k ∷ d.zeros ∷ [])
    ∣ d.kind is 3 ⇒ every (ltb d.a (length M.variables) ∷ eqb d.b 0 ∷ eqb d.k 0 ∷ d.zeros ∷ [])
    ∣ d.kind is 4 ⇒ every (ltb d.a (length M.signals) ∷ eqb d.b 0 ∷ eqb d.k 0 ∷ d.zeros ∷ [])
    ∣ d.kind is 5 ⇒ every (ltb d.a (length M.signals) ∷ eqb d.b 0 ∷ leb d.k 31 ∷ d.zeros ∷ [])
    ∣ d.kind is 6 ⇒ every (eqb d.b 0 ∷ eqb d.k 0 ∷ d.zeros ∷ [])
    ∣ d.kind is 10 ⇒ every (eqb d.b 0 ∷ eqb d.k 0 ∷ d.zeros ∷ [])
    ∣ every (leb 7 d.kind ∷ leb d.kind 18 ∷ eqb d.k 0 ∷ d.zeros ∷ [])

-- the process of statement n: the first that ends past it
unfoldable pub owner_of : Model → ℕ → ℕ
owner_of M n = first_with (λ p. ltb n (end_of M p)) (length M.processes)

-- statement a belongs to process p
unfoldable pub in_span : Model → ℕ → ℕ → Bool
in_span M p a = leb (process_at M p).first a && ltb a (end_of M p)

-- "where b or c 65,535 means absent"
abbrev pub absent : ℕ
absent = 65535

abbrev pub is_node : Model → ℕ → Bool
is_node M n = ltb n (length M.nodes)

abbrev pub is_node_or_absent : Model → ℕ → Bool
is_node_or_absent M n = is_node M n || eqb n absent

-- a signal assignment of a value: kind 2, and kind 7, "the inertial form of kind 2"
abbrev pub assigns : ℕ → Bool
assigns kind = eqb kind 2 || eqb kind 7

-- the fields by the statement's kind, n being its number
unfoldable pub statement_ok : Model → ℕ → StatementRecord → Bool
statement_ok M n s =
    s.kind is 0 ⇒ every (eqb s.a 0 ∷ eqb s.b 0 ∷ eqb s.c 0 ∷ eqb s.set 0 ∷ s.zeros ∷ [])
    ∣ s.kind is 1 ⇒ every (ltb s.a (length M.variables) ∷ is_node M s.b ∷ eqb s.c 0 ∷ eqb s.set 0 ∷ s.zeros ∷ [])
    ∣ assigns s.kind ⇒ every (ltb s.a (length M.signals) ∷ is_node M s.b ∷ is_node M s.c ∷ eqb s.set 0 ∷ s.zeros ∷ [])
    ∣ s.kind is 3 ⇒ every (in_span M (owner_of M n) s.a ∷ is_node M s.b ∷ eqb s.c 0 ∷ eqb s.set 0 ∷ s.zeros ∷ [])
    ∣ s.kind is 4 ⇒ every (in_span M (owner_of M n) s.a ∷ eqb s.b 0 ∷ eqb s.c 0 ∷ eqb s.set 0 ∷ s.zeros ∷ [])
    ∣ s.kind is 5 ⇒ every (eqb s.a 0 ∷ is_node_or_absent M s.b ∷ is_node_or_absent M s.c ∷ ltb s.set (2 ^ length M.signals) ∷ s.zeros ∷ [])
    ∣ s.kind is 6 ⇒ every (ltb s.a (length M.signals) ∷ eqb s.b 0 ∷ is_node M s.c ∷ eqb s.set 0 ∷ s.zeros ∷ [])
    ∣ false

-- "byte 0-8 a row of codes, 9-11 zero .. a code above 8 is 5"
unfoldable pub row_ok : RowRecord → Bool
row_ok d = all_below (λ i. leb (get_or d.codes i 0) 8) 9 && d.zeros

unfoldable pub fields_ok : Model → Bool
fields_ok M =
    every
    (all_below (λ n. signal_ok (signal_at M n)) (length M.signals)
    ∷ all_below (λ n. variable_ok M (variable_at M n)) (length M.variables)
    ∷ all_below (process_ok M) (length M.processes)
    ∷ covered M
    ∷ all_below (λ n. driver_ok M (driver_at M n)) (length M.drivers)
    ∷ all_below (λ n. node_ok M (node_at M n)) (length M.nodes)
    ∷ all_below (λ n. statement_ok M n (statement_at M n)) (length M.statements)
    ∷ all_below (λ n. row_ok (row_at M n)) (length M.rows)
    ∷ [])
