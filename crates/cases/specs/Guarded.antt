-- Two processes that share a bus and a register: "A driver whose current transaction is null adds nothing to the resolution. With all
-- its drivers null, a bus is Z and a register keeps its value; a signal without a driver keeps its starting value. [..] Two schedules
-- that come to rest must still agree, now also on which drivers are off. Answers: 20, kind 6 on a plain signal, checked after 8."
use Rattle.std.specs.Prelude.{◌≡◌, ℕ}
use mathlib.Core.List.{List, [], ◌∷◌, ◌++◌, map, flatten}
use Rattle.base.specs.Rules.{first_failing}
use Rattle.values.specs.Nine.{‘0’, ‘1’, Z}
use Rattle.values.specs.Bench.{Row, ◌gives◌}
use Rattle.blocks.specs.Records.{plain, bus, register, Model}
use Rattle.blocks.specs.declared.records.DriverRecord.{DriverRecord}
use Rattle.fields.specs.Fields.{absent}
use Rattle.trees.specs.Trees.{logic}
use Rattle.model.specs.Rules.{record_rules, Accepted}
use Rattle.rules.specs.declared.driven.Driven.{Driven}
use Rattle.rules.specs.declared.driven.Driven.TheVariants.{To, Null}
use Rattle.rules.specs.Configuration.{DriverState, Configuration, current_of}
use Rattle.session.specs.Lists.{Order, after}
use Rattle.cases.specs.Forms.{signal, process, driver, node, statement, block, pick_order, settle_order, delta_step_order, time_step_order}

-- signal 0 is a bus and 1 a register, both starting at '0'; 2 is a bus without a driver, starting at '1'.
-- Process 0: 0 and 1 <= '1' after 0; both <= null after 1; wait. Process 1: both <= null after 0; wait.
unfoldable pub shared : Model
shared =
    record {
      signals = signal logic bus ‘0’ ∷ signal logic register ‘0’ ∷ signal logic bus ‘1’ ∷ [];
      variables = [];
      processes = process 0 5 ∷ process 5 3 ∷ [];
      drivers = driver 0 0 ∷ driver 0 1 ∷ driver 1 0 ∷ driver 1 1 ∷ [];
      nodes = node 2 0 0 ‘1’ ∷ node 1 0 0 0 ∷ node 1 0 0 1 ∷ [];
      statements =
          statement 2 0 0 1 0
          ∷ statement 2 1 0 1 0
          ∷ statement 6 0 0 2 0
          ∷ statement 6 1 0 2 0
          ∷ statement 5 0 absent absent 0
          ∷ statement 6 0 0 1 0
          ∷ statement 6 1 0 1 0
          ∷ statement 5 0 absent absent 0
          ∷ [];
      rows = [];
    }

-- the same model as bytes: a block for each kind of which it has records
unfoldable pub shared_signals : List ℕ
shared_signals =
    block 0 1 3
    (1 ∷ 1 ∷ 0 ∷ 0 ∷ 2 ∷ 0 ∷ 0 ∷ 0 ∷ 0 ∷ 0 ∷ 0 ∷ 0
    ∷ 1 ∷ 2 ∷ 0 ∷ 0 ∷ 2 ∷ 0 ∷ 0 ∷ 0 ∷ 0 ∷ 0 ∷ 0 ∷ 0
    ∷ 1 ∷ 1 ∷ 0 ∷ 0 ∷ 3 ∷ 0 ∷ 0 ∷ 0 ∷ 0 ∷ 0 ∷ 0 ∷ 0
    ∷ [])
    246 248

unfoldable pub shared_processes : List ℕ
shared_processes =
    block 1 3 2
    (0 ∷ 0 ∷ 5 ∷ 0 ∷ 0 ∷ 0 ∷ 0 ∷ 0 ∷ 0 ∷ 0 ∷ 0 ∷ 0
    ∷ 5 ∷ 0 ∷ 3 ∷ 0 ∷ 0 ∷ 0 ∷ 0 ∷ 0 ∷ 0 ∷ 0 ∷ 0 ∷ 0
    ∷ [])
    240 253

unfoldable pub shared_drivers : List ℕ
shared_drivers =
    block 2 4 4
    (0 ∷ 0 ∷ 0 ∷ 0 ∷ 0 ∷ 0 ∷ 0 ∷ 0 ∷ 0 ∷ 0 ∷ 0 ∷ 0
    ∷ 0 ∷ 1 ∷ 0 ∷ 0 ∷ 0 ∷ 0 ∷ 0 ∷ 0 ∷ 0 ∷ 0 ∷ 0 ∷ 0
    ∷ 1 ∷ 0 ∷ 0 ∷ 0 ∷ 0 ∷ 0 ∷ 0 ∷ 0 ∷ 0 ∷ 0 ∷ 0 ∷ 0
    ∷ 1 ∷ 1 ∷ 0 ∷ 0 ∷ 0 ∷ 0 ∷ 0 ∷ 0 ∷ 0 ∷ 0 ∷ 0 ∷ 0
    ∷ [])
    249 249

unfoldable pub shared_nodes : List ℕ
shared_nodes =
    block 3 5 3
    (2 ∷ 0 ∷ 0 ∷ 0 ∷ 0 ∷ 0 ∷ 0 ∷ 0 ∷ 3 ∷ 0 ∷ 0 ∷ 0
    ∷ 1 ∷ 0 ∷ 0 ∷ 0 ∷ 0 ∷ 0 ∷ 0 ∷ 0 ∷ 0 ∷ 0 ∷ 0 ∷ 0
    ∷ 1 ∷ 0 ∷ 0 ∷ 0 ∷ 0 ∷ 0 ∷ 0 ∷ 0 ∷ 1 ∷ 0 ∷ 0 ∷ 0
    ∷ [])
    241 252

unfoldable pub shared_statements : List ℕ
shared_statements =
    block 4 6 8
    (2 ∷ 0 ∷ 0 ∷ 0 ∷ 0 ∷ 0 ∷ 1 ∷ 0 ∷ 0 ∷ 0 ∷ 0 ∷ 0
    ∷ 2 ∷ 0 ∷ 1 ∷ 0 ∷ 0 ∷ 0 ∷ 1 ∷ 0 ∷ 0 ∷ 0 ∷ 0 ∷ 0
    ∷ 6 ∷ 0 ∷ 0 ∷ 0 ∷ 0 ∷ 0 ∷ 2 ∷ 0 ∷ 0 ∷ 0 ∷ 0 ∷ 0
    ∷ 6 ∷ 0 ∷ 1 ∷ 0 ∷ 0 ∷ 0 ∷ 2 ∷ 0 ∷ 0 ∷ 0 ∷ 0 ∷ 0
    ∷ 5 ∷ 0 ∷ 0 ∷ 0 ∷ 255 ∷ 255 ∷ 255 ∷ 255 ∷ 0 ∷ 0 ∷ 0 ∷ 0
    ∷ 6 ∷ 0 ∷ 0 ∷ 0 ∷ 0 ∷ 0 ∷ 1 ∷ 0 ∷ 0 ∷ 0 ∷ 0 ∷ 0
    ∷ 6 ∷ 0 ∷ 1 ∷ 0 ∷ 0 ∷ 0 ∷ 1 ∷ 0 ∷ 0 ∷ 0 ∷ 0 ∷ 0
    ∷ 5 ∷ 0 ∷ 0 ∷ 0 ∷ 255 ∷ 255 ∷ 255 ∷ 255 ∷ 0 ∷ 0 ∷ 0 ∷ 0
    ∷ [])
    202 247

unfoldable pub shared_blocks : List (List ℕ)
shared_blocks = shared_signals ∷ shared_processes ∷ shared_drivers ∷ shared_nodes ∷ shared_statements ∷ []

unfoldable pub shared_bytes : List ℕ
shared_bytes = flatten shared_blocks

-- up to the delta step in which process 0 drives and the drivers of process 1 turn off, and up to that in which all are off
abbrev pub driven : List Order
driven = settle_order 10 ∷ delta_step_order ∷ []

abbrev pub disconnected : List Order
disconnected = driven ++ (time_step_order ∷ delta_step_order ∷ [])

-- the same with process 1 picked first
abbrev pub swapped : List Order
swapped =
    pick_order 1 ∷ pick_order 1 ∷ pick_order 0 ∷ pick_order 1 ∷ settle_order 10 ∷ delta_step_order ∷ time_step_order ∷ delta_step_order ∷ []

-- one process: signal 0, of the kind, <= null after 0; wait
abbrev pub assigning_null : ℕ → List DriverRecord → Model
assigning_null kind drivers =
    record {
      signals = signal logic kind ‘0’ ∷ [];
      variables = [];
      processes = process 0 2 ∷ [];
      drivers = drivers;
      nodes = node 1 0 0 0 ∷ [];
      statements = statement 6 0 0 0 0 ∷ statement 5 0 absent absent 0 ∷ [];
      rows = [];
    }

abbrev pub value_after : List Order → ℕ → ℕ
value_after os s = current_of (after shared os).signals s

abbrev pub refusal_with : ℕ → List DriverRecord → ℕ
refusal_with kind drivers = first_failing (record_rules (assigning_null kind drivers))

unfoldable pub guarded_rows : List Row
guarded_rows =
    (value_after driven 0 gives ‘1’)
    ∷ (value_after driven 1 gives ‘1’)
    ∷ (value_after disconnected 0 gives Z)
    ∷ (value_after disconnected 1 gives ‘1’)
    ∷ (value_after disconnected 2 gives ‘1’)
    ∷ (refusal_with plain (driver 0 0 ∷ []) gives 20)
    ∷ (refusal_with plain [] gives 8)
    ∷ (refusal_with bus (driver 0 0 ∷ []) gives 0)
    ∷ (refusal_with register [] gives 8)
    ∷ []

-- what the drivers of a configuration carry
abbrev pub carried : Configuration → List Driven
carried c = map (λ (d : DriverState). d.current) c.drivers

pub record GuardedPlayed : Type 0 where
  pub said : map (λ r. r.said) guarded_rows ≡ ‘1’ ∷ ‘1’ ∷ Z ∷ ‘1’ ∷ ‘1’ ∷ 20 ∷ 8 ∷ 0 ∷ 8 ∷ []
  pub accepted : Accepted shared
  pub one_off : carried (after shared driven) ≡ To ‘1’ ∷ To ‘1’ ∷ Null ∷ Null ∷ []
  pub all_off : carried (after shared disconnected) ≡ Null ∷ Null ∷ Null ∷ Null ∷ []
