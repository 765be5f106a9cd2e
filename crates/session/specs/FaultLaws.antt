-- Laws of faults (document 02, item 3): which node is at fault, and where a pick's answer tells it.
use Rattle.std.specs.Prelude.{◌≡◌, List, ℕ, ◌<◌, length}
use Rattle.base.specs.Bytes.{byte_at, word_at}
use Rattle.blocks.specs.Records.{Model}
use Rattle.model.specs.Rules.{Accepted}
use Rattle.rules.specs.Configuration.{ProcessState, process_in, stopped}
use Rattle.rules.specs.Evaluation.{Environment, failure, eval_of}
use Rattle.rules.specs.Failing.{FaultNamed}
use Rattle.rules.specs.Invariant.{Stopping}
use Rattle.rules.specs.Orders.{picked}
use Rattle.session.specs.Lists.{Order, answer_of, after}

-- the answer to a done pick that left its process as q
pub record PickTold (M : Model) (answer : List ℕ) (q : ProcessState) : Type 0 where
  -- "Byte 4 of a pick's answer stays the fault. Byte 5 is zero. Bytes 6-7 become the number of the first node that failed"
  pub fault : byte_at answer 4 ≡ q.fault
  pub zero : byte_at answer 5 ≡ 0
  pub node : word_at answer 6 ≡ q.node
  -- "65,535 for faults 2 and 3, and 0 when the pick had no fault"
  pub some_fault : q.standing ≡ stopped → Stopping M (failure q.node q.fault)
  pub no_fault : q.standing < stopped → (q.fault ≡ 0) × (q.node ≡ 0)

-- of every model that meets the rules of records
pub record FaultLaws : Type 0 where
  -- "the number of the first node that failed in the order of evaluation"
  pub named : (M : Model) → Accepted M → (e : Environment) (n : ℕ) → n < length M.nodes → FaultNamed M e n (eval_of M e n)
  -- after any orders, what a done pick answers
  pub told : (M : Model) → Accepted M → (os : List Order) (p : ℕ) → (picked M p (after M os)).refusal ≡ 0
      → PickTold M (answer_of (picked M p (after M os))) (process_in (picked M p (after M os)).after.processes p)
