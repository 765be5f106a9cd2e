-- The bound of document 02, item 11: "When none exists, and every wait has no c or a constant c above 0, every list of orders from the
-- start makes at most P + 1 delta steps at any one time, P being the number of processes." None: no closed chain of processes.
use Rattle.std.specs.Prelude.{◌≡◌, Bool, true, ◌&&◌, List, [], ◌∷◌, ℕ, ◌+◌, eqb, length}
use Rattle.base.specs.Bytes.{byte_at}
use Rattle.base.specs.Cases.{◌∣◌, ◌⇒◌}
use Rattle.loops.specs.Chains.{NoChain}
use Rattle.loops.specs.Kernel.{Kernel}
use Rattle.loops.specs.Bound.{FewSteps}
use Rattle.blocks.specs.Records.{Model, model_of}
use Rattle.model.specs.Rules.{refusal_of}
use Rattle.leads.specs.Leads.{leads_to, waits_later}
use Rattle.rules.specs.Configuration.{Configuration, first}
use Rattle.rules.specs.Orders.{picked, delta_stepped, time_stepped}
use Rattle.session.specs.Lists.{Order, time_in, played}

-- the answer is that of a delta step, done at the time t: order 6, "done when byte 0 of its answer is 0", the time in bytes 8 to 15
abbrev pub is_step_at : ℕ → Order → List ℕ → Bool
is_step_at t o a = eqb o.kind 6 && (eqb (byte_at a 0) 0 && eqb (time_in a) t)

-- the delta steps that some orders made at the time t, by their answers
unfoldable pub steps_at : ℕ → List Order → List (List ℕ) → ℕ
steps_at t [] bs = 0
steps_at t (o ∷ os) [] = 0
steps_at t (o ∷ os) (a ∷ bs) = (is_step_at t o a ⇒ 1 ∣ 0) + steps_at t os bs

-- the delta steps that a list of orders makes at the time t, "from the start": from the model's first configuration
abbrev pub delta_steps : Model → ℕ → List Order → ℕ
delta_steps M t os = steps_at t os (played M os (first M)).answers

-- the rules as a kernel of picks, delta steps and time steps, each of which can be done where its order is
abbrev pub kernel_of : Model → Kernel
kernel_of M =
    record {
      Conf = Configuration;
      time = λ c. c.time;
      can_pick = λ p c. eqb (picked M p c).refusal 0;
      picked = λ p c. (picked M p c).after;
      can_delta = λ c. eqb (delta_stepped M c).refusal 0;
      delta = λ c. (delta_stepped M c).after;
      can_time = λ c. eqb (time_stepped M c).refusal 0;
      timed = λ c. (time_stepped M c).after;
    }

-- the claim, of every accepted model and every list of orders, of any length and refused ones included
abbrev pub Bounded : Type 0
Bounded =
    (m : List ℕ) → refusal_of m ≡ 0
    → NoChain (leads_to (model_of m)) (length (model_of m).processes) → waits_later (model_of m) ≡ true
    → FewSteps (delta_steps (model_of m)) (length (model_of m).processes)
