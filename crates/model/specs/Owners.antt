-- Refusal 8: drivers and the owners of variables.
use Rattle.std.specs.Prelude.{ℕ, ◌+◌, ◌-◌, Bool, true, false, ◌&&◌, ◌||◌, List, [], ◌∷◌, eqb, leb, ltb, length, get_or}
use Rattle.base.specs.Below.{all_below, sum_below, every}
use Rattle.base.specs.Cases.{◌∣◌, ◌⇒◌, ◌is◌⇒◌}
use Rattle.base.specs.Course.{course, first_with}
use Rattle.blocks.specs.Records.{Model, signal_at, variable_at, driver_at, node_at, statement_at}
use Rattle.blocks.specs.declared.records.DriverRecord.{DriverRecord}
use Rattle.blocks.specs.declared.records.NodeRecord.{NodeRecord}
use Rattle.blocks.specs.declared.records.StatementRecord.{StatementRecord}
use Rattle.fields.specs.Fields.{absent, assigns, owner_of}
use Rattle.trees.specs.Trees.{operands_of}

-- by process, then by signal
unfoldable pub pair_below : DriverRecord → DriverRecord → Bool
pair_below d e = ltb d.process e.process || (eqb d.process e.process && ltb d.signal e.signal)

-- "Driver pairs do not strictly rise by process then signal"
unfoldable pub drivers_rise : Model → Bool
drivers_rise M = all_below (λ i. pair_below (driver_at M i) (driver_at M (i + 1))) (length M.drivers - 1)

-- how many drivers signal s has
unfoldable pub drivers_of : Model → ℕ → ℕ
drivers_of M s = sum_below (λ i. eqb (driver_at M i).signal s ⇒ 1 ∣ 0) (length M.drivers)

-- "an integer signal has more than one"
unfoldable pub single_ok : Model → ℕ → Bool
single_ok M s = eqb (signal_at M s).ty 1 || leb (drivers_of M s) 1

-- the driver of process p for signal s: the number of its record, or how many there are where it has none
unfoldable pub driver_for : Model → ℕ → ℕ → ℕ
driver_for M p s = first_with (λ i. eqb (driver_at M i).process p && eqb (driver_at M i).signal s) (length M.drivers)

-- node n's tree reads no variable outside process p: given what is so of the nodes below
unfoldable pub reads_by : Model → ℕ → NodeRecord → Bool → Bool → Bool
reads_by M p d x y =
    d.kind is 3 ⇒ eqb (variable_at M d.a).process p
    ∣ operands_of d.kind is 0 ⇒ true
    ∣ operands_of d.kind is 1 ⇒ x
    ∣ (x && y)

unfoldable pub next_reads : Model → ℕ → ℕ → List Bool → Bool
next_reads M p n before = reads_by M p (node_at M n) (get_or before (node_at M n).a false) (get_or before (node_at M n).b false)

unfoldable pub reads_own : Model → ℕ → ℕ → Bool
reads_own M p n = course (next_reads M p) n

-- "kind 2 lacks its driver, or a variable is assigned, or read in a statement's tree, outside its process"; "Kind 6 needs its driver
-- record as kind 2 does", and kind 7 does: p is the statement's process
unfoldable pub statement_owned : Model → ℕ → StatementRecord → Bool
statement_owned M p s =
    s.kind is 1 ⇒ (eqb (variable_at M s.a).process p && reads_own M p s.b)
    ∣ assigns s.kind ⇒ every (ltb (driver_for M p s.a) (length M.drivers) ∷ reads_own M p s.b ∷ reads_own M p s.c ∷ [])
    ∣ s.kind is 3 ⇒ reads_own M p s.b
    ∣ s.kind is 5 ⇒ ((eqb s.b absent || reads_own M p s.b) && (eqb s.c absent || reads_own M p s.c))
    ∣ s.kind is 6 ⇒ (ltb (driver_for M p s.a) (length M.drivers) && reads_own M p s.c)
    ∣ true

-- 8.
unfoldable pub owners_ok : Model → Bool
owners_ok M =
    every
    (drivers_rise M
    ∷ all_below (single_ok M) (length M.signals)
    ∷ all_below (λ n. statement_owned M (owner_of M n) (statement_at M n)) (length M.statements)
    ∷ [])
