-- Delays of 0 (document 02, item 4), played by the rules: an edge detector over delta and time steps, the first value of a signal with two
-- drivers, and the laws of the earlier values, used on the inverter.
use Rattle.std.specs.Prelude.{◌≡◌, List, [], ◌∷◌, ◌++◌, map, ℕ, get_or}
use Rattle.values.specs.Nine.{U, X, ‘0’, ‘1’, ‘-’}
use Rattle.values.specs.Bench.{Row, ◌gives◌}
use Rattle.blocks.specs.Records.{plain, Model}
use Rattle.fields.specs.Fields.{absent}
use Rattle.trees.specs.Trees.{logic}
use Rattle.model.specs.Rules.{Accepted}
use Rattle.rules.specs.Configuration.{Configuration, process_in, current_of, first, ready, waiting}
use Rattle.rules.specs.Evaluation.{environment_of, eval_of}
use Rattle.rules.specs.Steps.{delta_step}
use Rattle.rules.specs.Delays.{NoDelayOfZero, former_environment, with_earlier, SameButEarlier}
use Rattle.session.specs.Lists.{Order, after}
use Rattle.session.specs.DelayLaws.{SamePlay, DelayLaws}
use Rattle.cases.specs.Forms.{signal, variable, process, driver, node, statement, pick_order, settle_order, delta_step_order, time_step_order}
use Rattle.cases.specs.Answers.{answer_to, picks_in}
use Rattle.cases.specs.Claims.{◌by◌}
use Rattle.cases.specs.Inverter.{inverter, inverter_orders}

-- Signals 0 and 1 start at '0'. Process 0: signal 0 <= '1' after 0; signal 1 <= '1' after 1; wait. Process 1: wait on signal 0 until it
-- is '1' and, delayed by 0, '0'; variable 0 := signal 0 delayed by 0; wait. Process 2: wait on signal 1 until signal 0, delayed by 0,
-- is '1'; wait.
unfoldable pub detector : Model
detector =
    record {
      signals = signal logic plain ‘0’ ∷ signal logic plain ‘0’ ∷ [];
      variables = variable logic 1 U ∷ [];
      processes = process 0 3 ∷ process 3 3 ∷ process 6 2 ∷ [];
      drivers = driver 0 0 ∷ driver 0 1 ∷ [];
      nodes =
          node 2 0 0 ‘1’
          ∷ node 1 0 0 0
          ∷ node 1 0 0 1
          ∷ node 4 0 0 0
          ∷ node 5 0 0 0
          ∷ node 13 3 0 0
          ∷ node 2 0 0 ‘0’
          ∷ node 13 4 6 0
          ∷ node 7 5 7 0
          ∷ node 13 4 0 0
          ∷ [];
      statements =
          statement 2 0 0 1 0
          ∷ statement 2 1 0 2 0
          ∷ statement 5 0 absent absent 0
          ∷ statement 5 0 8 absent 1
          ∷ statement 1 0 4 0 0
          ∷ statement 5 0 absent absent 0
          ∷ statement 5 0 9 absent 2
          ∷ statement 5 0 absent absent 0
          ∷ [];
      rows = [];
    }

-- up to the delta step in which signal 0 rises, the picks after it, the time step and the delta step in which signal 1 alone rises
abbrev pub risen : List Order
risen = settle_order 10 ∷ delta_step_order ∷ []

abbrev pub detected : List Order
detected = risen ++ (settle_order 10 ∷ [])

abbrev pub timed : List Order
timed = detected ++ (time_step_order ∷ [])

abbrev pub steady : List Order
steady = timed ++ (delta_step_order ∷ [])

abbrev pub current_in : List Order → ℕ → ℕ
current_in os s = current_of (after detector os).signals s

abbrev pub earlier_in : List Order → ℕ → ℕ
earlier_in os s = get_or (after detector os).earlier s 0

-- a signal with two drivers, both at '-': it is X. Process 0: variable 0 := signal 0 delayed by 0
unfoldable pub clashing : Model
clashing =
    record {
      signals = signal logic plain ‘-’ ∷ [];
      variables = variable logic 0 U ∷ [];
      processes = process 0 1 ∷ process 1 1 ∷ [];
      drivers = driver 0 0 ∷ driver 1 0 ∷ [];
      nodes = node 5 0 0 0 ∷ [];
      statements = statement 1 0 0 0 0 ∷ statement 5 0 absent absent 0 ∷ [];
      rows = [];
    }

unfoldable pub delay_rows : List Row
delay_rows =
    (earlier_in [] 0 gives ‘0’)
    -- "the value that the signal had before the latest delta step"
    ∷ (current_in risen 0 gives ‘1’)
    ∷ (earlier_in risen 0 gives ‘0’)
    -- "for a wait's condition, the one under way": it is true, and process 1 reads the earlier value
    ∷ (picks_in (answer_to detector detected 2) gives 2)
    ∷ (get_or (after detector detected).variables 0 0 gives ‘0’)
    -- "A time step does not alter it."
    ∷ ((after detector timed).time gives 1)
    ∷ (earlier_in timed 0 gives ‘0’)
    -- a delta step sets it for a signal that does not change too
    ∷ (current_in steady 0 gives ‘1’)
    ∷ (earlier_in steady 0 gives ‘1’)
    ∷ (current_in steady 1 gives ‘1’)
    ∷ (earlier_in steady 1 gives ‘0’)
    -- so the condition of process 2 is true; by the earlier value of the step before it would be false
    ∷ ((process_in (after detector timed).processes 2).standing gives waiting)
    ∷ ((process_in (after detector steady).processes 2).standing gives ready)
    -- "or the first current value if there was none"
    ∷ (get_or (first clashing).earlier 0 0 gives X)
    ∷ (get_or (after clashing (pick_order 0 ∷ [])).variables 0 0 gives X)
    ∷ []

pub record DelaysPlayed : Type 0 where
  pub said : map (λ r. r.said) delay_rows ≡ ‘0’ ∷ ‘1’ ∷ ‘0’ ∷ 2 ∷ ‘0’ ∷ 1 ∷ ‘0’ ∷ ‘1’ ∷ ‘1’ ∷ ‘1’ ∷ ‘0’ ∷ waiting ∷ ready ∷ X ∷ X ∷ []
  pub detector_accepted : Accepted detector
  pub clashing_accepted : Accepted clashing

-- the inverter's first configuration with other earlier values
abbrev pub otherwise : Configuration
otherwise = with_earlier (X ∷ ‘1’ ∷ []) (first inverter)

-- The laws of the earlier values used once: the inverter has no delay of 0, and does not see them.
pub record DelaysUsed : Type 0 where
  pub laws : DelayLaws
  pub free : NoDelayOfZero inverter
  pub differ : SameButEarlier (first inverter) otherwise
  -- node 1 is `not i`
  pub value :
      eval_of inverter (environment_of [] otherwise.signals otherwise.earlier) 1
      ≡ eval_of inverter (former_environment [] otherwise.signals) 1
      by laws.values inverter free [] otherwise.signals otherwise.earlier 1
  pub delta : delta_step inverter (first inverter) ≡ delta_step inverter otherwise by laws.deltas inverter (first inverter) otherwise differ
  pub same : SamePlay inverter inverter_orders (first inverter) otherwise by laws.orders inverter free inverter_orders (first inverter) otherwise differ
