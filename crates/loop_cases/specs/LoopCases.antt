-- Loops without delay in small models (document 02, item 11): the chains that are asked for, by computation; the inverter of the bench,
-- which has none; and two processes that make P + 1 = 3 delta steps at one time. Of each model the records.
use Rattle.std.specs.Prelude.{◌≡◌, true, List, [], ◌∷◌, ℕ}
use Rattle.loops.specs.Bound.{FewSteps}
use Rattle.loops.specs.Chains.{NoChain}
use Rattle.blocks.specs.Records.{plain, Model}
use Rattle.blocks.specs.declared.records.NodeRecord.{NodeRecord}
use Rattle.blocks.specs.declared.records.SignalRecord.{SignalRecord}
use Rattle.blocks.specs.declared.records.StatementRecord.{StatementRecord}
use Rattle.fields.specs.Fields.{absent}
use Rattle.trees.specs.Trees.{integer}
use Rattle.model.specs.Rules.{Accepted}
use Rattle.leads.specs.Leads.{leads_to}
use Rattle.session.specs.Lists.{Order}
use Rattle.bounded.specs.Bounded.{delta_steps}
use Rattle.loop_check.specs.Check.{loop_of, check_of}
use Rattle.cases.specs.Forms.{signal, process, driver, node, statement, settle_order, delta_step_order, time_step_order}
use Rattle.cases.specs.Inverter.{inverter, inverter_bytes}

abbrev pub number : SignalRecord
number = signal integer plain 0

-- delays: 0 the constant 0, 1 the constant 1, 2 the constant -1, 3 the negation of that
abbrev pub delays : List NodeRecord
delays = node 1 0 0 0 ∷ node 1 0 0 1 ∷ node 1 0 0 4294967295 ∷ node 10 2 0 0 ∷ []

-- two processes of two statements each; process 0 drives signal 0, process 1 signal 1
abbrev pub pair : List StatementRecord → Model
pair statements =
    record {
      signals = number ∷ number ∷ [];
      variables = [];
      processes = process 0 2 ∷ process 2 2 ∷ [];
      drivers = driver 0 0 ∷ driver 1 1 ∷ [];
      nodes = delays;
      statements = statements;
      rows = [];
    }

-- each assigns, after the delay x or y, the signal that the other waits on
abbrev pub ring : ℕ → ℕ → Model
ring x y = pair (statement 2 0 1 x 0 ∷ statement 5 0 absent absent 2 ∷ statement 2 1 1 y 0 ∷ statement 5 0 absent absent 1 ∷ [])

-- process 0 assigns signal 0 and waits on none; process 1 assigns signal 1, by statement kind 7, and waits on both
abbrev pub alone : Model
alone = pair (statement 2 0 1 0 0 ∷ statement 5 0 absent absent 0 ∷ statement 7 1 1 0 0 ∷ statement 5 0 absent absent 3 ∷ [])

-- 0 leads to 1 and to 2, 1 to 2, and 2 to 0
abbrev pub shortcut : Model
shortcut =
    record {
      signals = number ∷ number ∷ number ∷ [];
      variables = [];
      processes = process 0 2 ∷ process 2 2 ∷ process 4 2 ∷ [];
      drivers = driver 0 0 ∷ driver 1 1 ∷ driver 2 2 ∷ [];
      nodes = delays;
      statements =
          statement 2 0 1 0 0
          ∷ statement 5 0 absent absent 4
          ∷ statement 2 1 1 0 0
          ∷ statement 5 0 absent absent 1
          ∷ statement 2 2 1 0 0
          ∷ statement 5 0 absent absent 3
          ∷ [];
      rows = [];
    }

-- process 0: wait for 1; signal 0 <= 1 after 0. Process 1: wait on signal 0; signal 1 <= 1 after 0.
unfoldable pub steppers : Model
steppers = pair (statement 5 0 absent 1 0 ∷ statement 2 0 1 0 0 ∷ statement 5 0 absent absent 1 ∷ statement 2 1 1 0 0 ∷ [])

-- a settle, the time step to time 1, and there three delta steps
abbrev pub step_orders : List Order
step_orders =
    settle_order 10
    ∷ time_step_order
    ∷ delta_step_order ∷ settle_order 10
    ∷ delta_step_order ∷ settle_order 10
    ∷ delta_step_order ∷ settle_order 10
    ∷ []

pub record LoopsShown : Type 0 where
  -- a constant of 0, a negative one and an expression are no constant above 0; a constant of 1 is, in either process
  pub closed : loop_of (ring 0 0) ≡ 0 ∷ 1 ∷ []
  pub below_zero : loop_of (ring 2 3) ≡ 0 ∷ 1 ∷ []
  pub delayed : loop_of (ring 1 0) ≡ []
  pub delayed_there : loop_of (ring 0 1) ≡ []
  -- "A and B may be the same"; process 0 leads to the loop and is on none
  pub itself : loop_of alone ≡ 1 ∷ []
  -- the shortest, though 0, 1, 2 has lower numbers
  pub shorter : loop_of shortcut ≡ 0 ∷ 2 ∷ []
  -- the inverter's bytes are accepted and have none, every wait has no c; so the laws speak of it
  pub inverter_checked : check_of inverter_bytes ≡ record { number = 0; chain = []; later = true }
  pub inverter_free : NoChain (leads_to inverter) 2
  pub inverter_few : FewSteps (delta_steps inverter) 2
  -- P + 1 delta steps at one time, and never more
  pub accepted : Accepted steppers
  pub met : delta_steps steppers 1 step_orders ≡ 3
  pub never_more : FewSteps (delta_steps steppers) 2
