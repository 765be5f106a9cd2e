-- Which process leads to which, by the records of a model (document 02, item 11): "Process A leads to B when A has an assignment of any
-- kind whose c is not a constant node above 0, to a signal in some wait set of B. A and B may be the same." Every assignment of A and
-- every wait of B count, reached or not.
use Rattle.std.specs.Prelude.{Bool, not, ◌&&◌, ◌||◌, ℕ, ◌+◌, eqb, ltb, length}
use Rattle.base.specs.Below.{all_below, any_below}
use Rattle.sets.specs.Sets.{in_set}
use Rattle.blocks.specs.Records.{Model, process_at, node_at, statement_at}
use Rattle.blocks.specs.declared.records.StatementRecord.{StatementRecord}
use Rattle.fields.specs.Fields.{absent, assigns}

-- some statement of process p passes the test
unfoldable pub some_of : Model → ℕ → (StatementRecord → Bool) → Bool
some_of M p test = any_below (λ i. test (statement_at M ((process_at M p).first + i))) (process_at M p).count

-- "a constant node above 0": node kind 1, whose k is an integer; of its 32 bits, 1 to 2,147,483,647 are above 0
unfoldable pub constant_above0 : Model → ℕ → Bool
constant_above0 M n = eqb (node_at M n).kind 1 && (ltb 0 (node_at M n).k && ltb (node_at M n).k 2147483648)

-- "an assignment of any kind": of a value, kinds 2 and 7, or of null, kind 6
abbrev pub is_assignment : ℕ → Bool
is_assignment kind = assigns kind || eqb kind 6

-- "an assignment of any kind whose c is not a constant node above 0"
unfoldable pub without_delay : Model → StatementRecord → Bool
without_delay M s = is_assignment s.kind && not (constant_above0 M s.c)

-- signal x is "in some wait set of B"
unfoldable pub waits_on : Model → ℕ → ℕ → Bool
waits_on M q x = some_of M q (λ s. eqb s.kind 5 && in_set s.set x)

-- process p leads to process q
unfoldable pub leads_to : Model → ℕ → ℕ → Bool
leads_to M p q = some_of M p (λ s. without_delay M s && waits_on M q s.a)

-- a statement that is no wait, or "has no c or a constant c above 0"
unfoldable pub wait_later : Model → StatementRecord → Bool
wait_later M s = not (eqb s.kind 5) || (eqb s.c absent || constant_above0 M s.c)

-- "every wait has no c or a constant c above 0"
unfoldable pub waits_later : Model → Bool
waits_later M = all_below (λ n. wait_later M (statement_at M n)) (length M.statements)
