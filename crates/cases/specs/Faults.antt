-- The rows of the proved table for the node that failed (document 02, item 3), and the laws of faults, used once.
use Rattle.std.specs.Prelude.{◌≡◌, List, [], ◌∷◌, map, ◌++◌, ℕ, ◌<◌, length, Err}
use Rattle.base.specs.Below.{All}
use Rattle.base.specs.Bytes.{byte_at, long_at}
use Rattle.base.specs.Rules.{first_failing}
use Rattle.values.specs.Bench.{Row, ◌gives◌}
use Rattle.blocks.specs.Records.{plain, Model}
use Rattle.fields.specs.Fields.{absent}
use Rattle.trees.specs.Trees.{integer, boolean}
use Rattle.model.specs.Rules.{record_rules, Accepted}
use Rattle.rules.specs.Configuration.{process_in, first, stopped}
use Rattle.rules.specs.Evaluation.{Environment, environment_of, failure, no_node, eval_of}
use Rattle.rules.specs.Failing.{evaluation_order, HasValue, AtFault}
use Rattle.rules.specs.Invariant.{Stopping}
use Rattle.rules.specs.Orders.{Outcome, picked}
use Rattle.session.specs.Lists.{Order, answer_of, after}
use Rattle.session.specs.FaultLaws.{FaultLaws}
use Rattle.cases.specs.Forms.{signal, variable, process, driver, node, statement, pick_order, settle_order, delta_step_order}
use Rattle.cases.specs.Answers.{answer_to, fault_in, node_in}
use Rattle.cases.specs.Arithmetic.{minus, most, failing, worker}
use Rattle.cases.specs.Bench.{adder, scheduler}
use Rattle.cases.specs.Claims.{◌by◌}

-- a model, some orders, and the fault and the node that the answer to the last of them, a pick of process 0, tells
pub record Told : Type 0 where
  pub model : Model
  pub before : List Order
  pub fault : ℕ
  pub node : ℕ

abbrev pub told : Model → List Order → ℕ → ℕ → Told
told M os fault node = record { model = M; before = os; fault = fault; node = node }

abbrev pub told_rows : List Told → List Row
told_rows [] = []
told_rows (t ∷ ts) =
    let answer : List ℕ = answer_to t.model (t.before ++ (pick_order 0 ∷ [])) (length t.before) in
    (fault_in answer gives t.fault) ∷ (node_in answer gives t.node) ∷ told_rows ts

-- node 2 is one sum, node 3 a sum over it; the inner one leaves the range, or the outer one
abbrev pub inner_sum : Model
inner_sum = worker (node 1 0 0 most ∷ node 1 0 0 1 ∷ node 11 0 1 0 ∷ node 11 2 1 0 ∷ [])

abbrev pub outer_sum : Model
outer_sum = worker (node 1 0 0 most ∷ node 1 0 0 1 ∷ node 11 1 1 0 ∷ node 11 2 0 0 ∷ [])

-- node 2 is true, node 3 false, node 4 divides by 0, and node 5 asks for its result. Process 0: variable 0 := node a and node 5 (kind 7),
-- or node a or node 5 (kind 8)
abbrev pub decider : ℕ → ℕ → Model
decider kind a =
    record {
      signals = [];
      variables = variable boolean 0 0 ∷ [];
      processes = process 0 1 ∷ [];
      drivers = [];
      nodes =
          node 1 0 0 1 ∷ node 1 0 0 0 ∷ node 13 0 0 0 ∷ node 13 0 1 0 ∷ node 16 0 1 0 ∷ node 13 4 0 0 ∷ node kind a 5 0 ∷ [];
      statements = statement 1 0 6 0 0 ∷ [];
      rows = [];
    }

-- node 0 is 1, node 1 is -1, node 3 leaves the range. Process 0: signal 0 <= node b after node c
abbrev pub delayer : ℕ → ℕ → Model
delayer b c =
    record {
      signals = signal integer plain 0 ∷ [];
      variables = [];
      processes = process 0 1 ∷ [];
      drivers = driver 0 0 ∷ [];
      nodes = node 1 0 0 1 ∷ node 1 0 0 (minus 1) ∷ node 1 0 0 most ∷ node 11 2 0 0 ∷ [];
      statements = statement 2 0 b c 0 ∷ [];
      rows = [];
    }

-- "the number of the first node that failed in the order of evaluation, 65,535 for faults 2 and 3, and 0 when the pick had no fault"
unfoldable pub told_cases : List Told
told_cases =
    told inner_sum [] 1 2
    ∷ told outer_sum [] 1 3
    -- b fails after a did not; both fail, and a is the first
    ∷ told (worker (failing 11 1 3)) [] 1 3
    ∷ told (worker (failing 11 3 4)) [] 1 3
    ∷ told (worker (failing 11 4 3)) [] 4 4
    -- an operand that is skipped, and one that is not
    ∷ told (decider 7 3) [] 0 0
    ∷ told (decider 8 2) [] 0 0
    ∷ told (decider 7 2) [] 4 4
    ∷ told (decider 8 3) [] 4 4
    -- fault 2; c fails after b did not; b is the first
    ∷ told (delayer 0 1) [] 2 no_node
    ∷ told (delayer 0 3) [] 1 3
    ∷ told (delayer 3 1) [] 1 3
    -- fault 3
    ∷ told scheduler (settle_order 16 ∷ []) 3 no_node
    -- no fault, then fault 1
    ∷ told adder [] 0 0
    ∷ told adder (pick_order 0 ∷ []) 1 2
    ∷ []

-- Process 0: signal 0 <= 1 after 0; wait. Process 1: wait on signal 0 until 1 / 0 = 1, node 2 being the division
abbrev pub waiter : Model
waiter =
    record {
      signals = signal integer plain 0 ∷ [];
      variables = [];
      processes = process 0 2 ∷ process 2 1 ∷ [];
      drivers = driver 0 0 ∷ [];
      nodes = node 1 0 0 1 ∷ node 1 0 0 0 ∷ node 16 0 1 0 ∷ node 13 2 0 0 ∷ [];
      statements = statement 2 0 0 1 0 ∷ statement 5 0 absent absent 0 ∷ statement 5 0 3 absent 1 ∷ [];
      rows = [];
    }

abbrev pub woken : List Order
woken = settle_order 10 ∷ delta_step_order ∷ []

-- "A process keeps the node (0 without a fault) beside its fault, in the configuration, for a wait's condition too." The answers to the
-- settle and to the delta step tell nothing of it.
unfoldable pub kept_rows : List Row
kept_rows =
    ((process_in (first waiter).processes 1).node gives 0)
    ∷ ((process_in (after waiter woken).processes 1).fault gives 4)
    ∷ ((process_in (after waiter woken).processes 1).node gives 2)
    ∷ (long_at (answer_to waiter woken 1) 4 gives 0)
    ∷ ((process_in (after adder (settle_order 10 ∷ [])).processes 0).fault gives 1)
    ∷ ((process_in (after adder (settle_order 10 ∷ [])).processes 0).node gives 2)
    ∷ (long_at (answer_to adder (settle_order 10 ∷ []) 0) 4 gives 0)
    ∷ []

unfoldable pub fault_rows : List Row
fault_rows = told_rows told_cases ++ kept_rows

-- the first rule that each case's model breaks
unfoldable pub fault_refusals : List ℕ
fault_refusals = map (λ M. first_failing (record_rules M)) (waiter ∷ map (λ (t : Told). t.model) told_cases)

-- what the nodes of the inner sum read
abbrev pub reading : Environment
reading = environment_of (first inner_sum).variables (first inner_sum).signals (first inner_sum).earlier

-- a pick of its process
abbrev pub pick : Outcome
pick = picked inner_sum 0 (after inner_sum [])

-- The laws of faults used once: node 3 fails by the inner sum, node 2, whose operands have values; the pick tells it.
pub record FaultsUsed : Type 0 where
  pub laws : FaultLaws
  pub accepted : Accepted inner_sum
  pub there : 3 < length inner_sum.nodes
  pub fails : eval_of inner_sum reading 3 ≡ Err (failure 2 1)
  pub at_fault : AtFault inner_sum reading 3 (failure 2 1) by rw fails at (laws.named inner_sum accepted reading 3 there)
  pub order : evaluation_order inner_sum reading 3 ≡ at_fault.before ++ (2 ∷ at_fault.after) by at_fault.order
  pub itself : eval_of inner_sum reading 2 ≡ Err (failure 2 1) by at_fault.fails
  pub before : All (HasValue inner_sum reading) at_fault.before by at_fault.valued
  -- the order is that of the expression (0 + 1) + 1: node 1 twice
  pub evaluated : evaluation_order inner_sum reading 3 ≡ 0 ∷ 1 ∷ 2 ∷ 1 ∷ 3 ∷ []
  pub done : pick.refusal ≡ 0
  pub stops : (process_in pick.after.processes 0).standing ≡ stopped
  pub fault_told : fault_in (answer_of pick) ≡ (process_in pick.after.processes 0).fault by (laws.told inner_sum accepted [] 0 done).fault
  pub zero_told : byte_at (answer_of pick) 5 ≡ 0 by (laws.told inner_sum accepted [] 0 done).zero
  pub node_told : node_in (answer_of pick) ≡ (process_in pick.after.processes 0).node by (laws.told inner_sum accepted [] 0 done).node
  pub stopping : Stopping inner_sum (failure (process_in pick.after.processes 0).node (process_in pick.after.processes 0).fault)
      by (laws.told inner_sum accepted [] 0 done).some_fault stops
