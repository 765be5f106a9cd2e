-- The node at fault, and where a pick's answer tells it. Assumes nothing.
use mathlib.Core.Path.{◌≡◌, refl}
use Prim.Native.Nat.{ℕ}
use native.Mathlib.Omega.{arith}
use Rattle.blocks.specs.Records.{Model}
use Rattle.model.specs.Facts.{Facts}
use Rattle.model.proofs.Facts.{facts}
use Rattle.rules.specs.Configuration.{Configuration, process_in, first}
use Rattle.rules.specs.Invariant.{Reachable}
use Rattle.rules.specs.Orders.{Outcome}
use Rattle.rules.proofs.Failing.{fault_named}
use Rattle.rules.proofs.FirstReachable.{first_reachable}
use Rattle.rules.proofs.Invariant.{failure_small}
use Rattle.rules.proofs.Outcomes.{Pick, pick_refused, pick_done_lem, pick_is}
use Rattle.rules.proofs.StepReachable.{stepped_reachable}
use Rattle.session.specs.Lists.{answer_of}
use Rattle.session.specs.FaultLaws.{PickTold, FaultLaws}
use Rattle.session.proofs.Answers.{fault_byte, zero_byte, node_word}
use Rattle.session.proofs.InTime.{played_reachable}

-- a done pick tells the fault and the node of its process
module _ (M : Model) (fs : Facts M) (c : Configuration) (r : Reachable M c) (p : ℕ) where
  abbrev Tells : Outcome → Type 0
  Tells o = o.refusal ≡ 0 → PickTold M (answer_of o) (process_in o.after.processes p)

  pick_tells : (o : Outcome) → Pick M c p o → Tells o
  pick_tells o (pick_refused n f) h = absurd (omega (arith, f.least))
  pick_tells o (pick_done_lem there ready) h =
      let q = (stepped_reachable M fs c r p there ready).each_process p there in
      let s = failure_small M fs p _ _ q in
      record {
        fault = fault_byte o refl s.0 s.1;
        zero = zero_byte o refl s.0 s.1;
        node = node_word o refl s.0 s.1;
        some_fault = q.failed;
        no_fault = q.running;
      }

pub fault_laws : FaultLaws
fault_laws =
    record {
      named = λ M h e n l. fault_named M (facts M h) e n l;
      told = λ M h os p.
          let fs = facts M h in
          let r = played_reachable M fs os (first M) (first_reachable M fs) in
          pick_tells M fs _ r p _ (pick_is M _ p);
    }
