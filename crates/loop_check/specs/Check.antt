-- The check of document 02, item 11: "The check returns a closed chain of processes, or says that none exists, which it says exactly in
-- that case. The chain has each process once and begins at the lowest process on any; it is the shortest, then the one with the lowest
-- numbers in turn. A refused model gets its number."
use Rattle.std.specs.Prelude.{◌≡◌, Bool, true, false, List, [], ℕ, eqb, length, Result}
use Rattle.std.specs.Result.{IfOk}
use Rattle.base.specs.declared.refusal.Refusal.{Refusal}
use Rattle.base.specs.Refusals.{told}
use Rattle.base.specs.Cases.{◌∣◌, ◌⇒◌}
use Rattle.loops.specs.Bound.{FewSteps}
use Rattle.loops.specs.Chains.{NoChain, Asked}
use Rattle.loops.specs.Search.{chain_of}
use Rattle.chains.specs.Rows.{Holds}
use Rattle.blocks.specs.Records.{Model, model_of}
use Rattle.model.specs.Rules.{refusal_of}
use Rattle.leads.specs.Leads.{leads_to, waits_later}
use Rattle.bounded.specs.Bounded.{delta_steps, Bounded}
use Rattle.loop_check.specs.declared.Checked.{Checked}

-- the closed chain of a model that is asked for, as the search computes it; that it is asked for, and is the only one, is a law below
unfoldable pub loop_of : Model → List ℕ
loop_of M = chain_of (leads_to M) (length M.processes)

pub record Check : Type 0 where
  pub number : ℕ
  -- the processes of the chain, none where there is no closed chain
  pub chain : List ℕ
  -- every wait has no c or a constant c above 0
  pub later : Bool

-- the check of a model, any bytes: "A refused model gets its number", and no chain
unfoldable pub check_of : List ℕ → Check
check_of m =
    eqb (refusal_of m) 0 ⇒ record { number = 0; chain = loop_of (model_of m); later = waits_later (model_of m) }
    ∣ record { number = refusal_of m; chain = []; later = false }

-- what the program found in an accepted model is the check's
pub record Found (k : Check) (c : Checked) : Type 0 where
  pub chain : Holds k.chain c.chain
  pub later : c.later ≡ k.later

-- what the program returned is the check
pub record CheckIs (m : List ℕ) (r : Result Checked Refusal) : Type 0 where
  pub number : told r ≡ (check_of m).number
  pub found : IfOk r (Found (check_of m))

pub record LoopLaws : Type 0 where
  -- the chain of an accepted model is the one asked for, and no other list is
  pub asked : (m : List ℕ) → (check_of m).number ≡ 0 → Asked (leads_to (model_of m)) (length (model_of m).processes) (check_of m).chain
  pub only : (m : List ℕ) → (check_of m).number ≡ 0 → (xs : List ℕ) → Asked (leads_to (model_of m)) (length (model_of m).processes) xs
      → xs ≡ (check_of m).chain
  -- "or says that none exists, which it says exactly in that case"
  pub none : (m : List ℕ) → (check_of m).number ≡ 0 → (check_of m).chain ≡ [] → NoChain (leads_to (model_of m)) (length (model_of m).processes)
  pub exactly : (m : List ℕ) → (check_of m).number ≡ 0 → NoChain (leads_to (model_of m)) (length (model_of m).processes) → (check_of m).chain ≡ []
  -- "When none exists, and every wait has no c or a constant c above 0, every list of orders from the start makes at most P + 1 delta
  -- steps at any one time": over the model, and as the check says it
  pub bounded : Bounded
  pub few : (m : List ℕ) → (check_of m).number ≡ 0 → (check_of m).chain ≡ [] → (check_of m).later ≡ true
      → FewSteps (delta_steps (model_of m)) (length (model_of m).processes)
