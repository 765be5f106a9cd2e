-- Inertial delays (document 02, item 6), played by the rules: what stays pending of a line to which one process assigns, and a
-- line with two drivers.
use Rattle.std.specs.Prelude.{◌≡◌, ℕ, ◌+◌, eqb, length, replicate}
use mathlib.Core.List.{List, [], ◌∷◌, ◌++◌, map, flatten}
use Rattle.base.specs.Cases.{◌∣◌, ◌⇒◌}
use Rattle.base.specs.Rules.{first_failing}
use Rattle.blocks.specs.Records.{plain, bus, Model}
use Rattle.blocks.specs.declared.records.NodeRecord.{NodeRecord}
use Rattle.blocks.specs.declared.records.StatementRecord.{StatementRecord}
use Rattle.fields.specs.Fields.{absent}
use Rattle.values.specs.Nine.{‘0’, ‘1’, Z}
use Rattle.trees.specs.Trees.{logic}
use Rattle.model.specs.Rules.{record_rules}
use Rattle.rules.specs.declared.driven.Driven.TheVariants.{To}
use Rattle.rules.specs.Configuration.{Transaction, DriverState, Configuration, driver_in}
use Rattle.session.specs.Lists.{after}
use Rattle.cases.specs.Forms.{signal, process, driver, node, statement, pick_order, settle_order, block}
use Rattle.cases.specs.Answers.{answer_to, fault_in}

-- an assignment to the line: its statement's kind, its value and its delay
pub record Assignment : Type 0 where
  pub kind : ℕ
  pub value : ℕ
  pub delay : ℕ

abbrev pub transport : ℕ → ℕ → Assignment
transport v d = record { kind = 2; value = v; delay = d }

abbrev pub null : ℕ → Assignment
null d = record { kind = 6; value = ‘0’; delay = d }

abbrev pub inertial : ℕ → ℕ → Assignment
inertial v d = record { kind = 7; value = v; delay = d }

-- nodes n and n + 1: the assignment's value and its delay
abbrev pub nodes_of : List Assignment → List NodeRecord
nodes_of [] = []
nodes_of (a ∷ xs) = node 2 0 0 a.value ∷ node 1 0 0 a.delay ∷ nodes_of xs

abbrev pub statements_of : ℕ → List Assignment → List StatementRecord
statements_of n [] = []
statements_of n (a ∷ xs) = statement a.kind 0 (eqb a.kind 6 ⇒ 0 ∣ n) (n + 1) 0 ∷ statements_of (n + 2) xs

-- Signal 0, the line, is a bus. Process 0 makes the assignments one after the other.
abbrev pub line : List Assignment → Model
line xs =
    record {
      signals = signal logic bus Z ∷ [];
      variables = [];
      processes = process 0 (length xs) ∷ [];
      drivers = driver 0 0 ∷ [];
      nodes = nodes_of xs;
      statements = statements_of 0 xs;
      rows = [];
    }

-- a transaction of a value
abbrev pub due : ℕ → ℕ → Transaction
due v t = record { time = t; value = To v }

-- some assignments, and what is said to be pending after them
pub record Case : Type 0 where
  pub assignments : List Assignment
  pub said : List Transaction

infix 3 ◌leave◌
abbrev pub ◌leave◌ : List Assignment → List Transaction → Case
xs leave w = record { assignments = xs; said = w }

abbrev pub pending : Case → List Transaction
pending c = (driver_in (after (line c.assignments) (settle_order (length c.assignments) ∷ [])).drivers 0).pending

-- eight transactions of the same value, and of values in turn
abbrev pub eight_alike : List Assignment
eight_alike = transport ‘0’ 1 ∷ transport ‘0’ 2 ∷ transport ‘0’ 3 ∷ transport ‘0’ 4 ∷ transport ‘0’ 5 ∷ transport ‘0’ 6 ∷ transport ‘0’ 7 ∷ transport ‘0’ 8 ∷ []

abbrev pub eight_in_turn : List Assignment
eight_in_turn = transport ‘0’ 1 ∷ transport ‘1’ 2 ∷ transport ‘0’ 3 ∷ transport ‘1’ 4 ∷ transport ‘0’ 5 ∷ transport ‘1’ 6 ∷ transport ‘0’ 7 ∷ transport ‘1’ 8 ∷ []

unfoldable pub inertial_cases : List Case
inertial_cases =
    -- a pulse shorter than the delay vanishes; a transport delay keeps it
    (inertial ‘1’ 5 ∷ inertial ‘0’ 6 ∷ [] leave due ‘0’ 6 ∷ [])
    ∷ (transport ‘1’ 5 ∷ transport ‘0’ 6 ∷ [] leave due ‘1’ 5 ∷ due ‘0’ 6 ∷ [])
    -- the removal of kind 2 comes first
    ∷ (inertial ‘0’ 5 ∷ inertial ‘0’ 4 ∷ [] leave due ‘0’ 4 ∷ [])
    -- a run of equal values stays, and ends at a different one or at null
    ∷ (inertial ‘0’ 3 ∷ inertial ‘0’ 4 ∷ inertial ‘0’ 5 ∷ [] leave due ‘0’ 3 ∷ due ‘0’ 4 ∷ due ‘0’ 5 ∷ [])
    ∷ (transport ‘0’ 2 ∷ transport ‘1’ 3 ∷ transport ‘0’ 4 ∷ inertial ‘0’ 5 ∷ [] leave due ‘0’ 4 ∷ due ‘0’ 5 ∷ [])
    ∷ (transport ‘0’ 2 ∷ null 3 ∷ transport ‘0’ 4 ∷ inertial ‘0’ 5 ∷ [] leave due ‘0’ 4 ∷ due ‘0’ 5 ∷ [])
    -- a ninth of eight that it removes is done; of eight that it keeps it is fault 3, and the eight stay
    ∷ (eight_in_turn ++ (inertial ‘0’ 9 ∷ []) leave due ‘0’ 9 ∷ [])
    ∷ (eight_alike ++ (inertial ‘0’ 9 ∷ [])
    leave due ‘0’ 1 ∷ due ‘0’ 2 ∷ due ‘0’ 3 ∷ due ‘0’ 4 ∷ due ‘0’ 5 ∷ due ‘0’ 6 ∷ due ‘0’ 7 ∷ due ‘0’ 8 ∷ [])
    ∷ []

-- the fault of a ninth
abbrev pub ninth : List Assignment → ℕ
ninth xs = fault_in (answer_to (line (xs ++ (inertial ‘0’ 9 ∷ []))) (settle_order 8 ∷ pick_order 0 ∷ []) 1)

pub record InertialPlayed : Type 0 where
  pub left : map pending inertial_cases ≡ map (λ c. c.said) inertial_cases
  pub ninth_done : ninth eight_in_turn ≡ 0
  pub ninth_fails : ninth eight_alike ≡ 3
  pub accepted : map (λ c. first_failing (record_rules (line c.assignments))) inertial_cases ≡ replicate 8 0

-- Signal 0 starts at '0'. Process 0: signal 0 <= '1' after 2; signal 0 <= '0' after 3; wait. Process 1: signal 0 <= 'Z' after 2; wait. All
-- three are inertial.
unfoldable pub filtered : Model
filtered =
    record {
      signals = signal logic plain ‘0’ ∷ [];
      variables = [];
      processes = process 0 3 ∷ process 3 2 ∷ [];
      drivers = driver 0 0 ∷ driver 1 0 ∷ [];
      nodes = node 2 0 0 ‘1’ ∷ node 1 0 0 2 ∷ node 2 0 0 ‘0’ ∷ node 1 0 0 3 ∷ node 2 0 0 Z ∷ node 1 0 0 2 ∷ [];
      statements =
          statement 7 0 0 1 0
          ∷ statement 7 0 2 3 0
          ∷ statement 5 0 absent absent 0
          ∷ statement 7 0 4 5 0
          ∷ statement 5 0 absent absent 0
          ∷ [];
      rows = [];
    }

-- the same model as bytes: a block for each kind of which it has records
unfoldable pub filtered_blocks : List (List ℕ)
filtered_blocks =
    block 0 1 1
    (1 ∷ 0 ∷ 0 ∷ 0 ∷ 2 ∷ 0 ∷ 0 ∷ 0 ∷ 0 ∷ 0 ∷ 0 ∷ 0
    ∷ [])
    253 254
    ∷ block 1 3 2
    (0 ∷ 0 ∷ 3 ∷ 0 ∷ 0 ∷ 0 ∷ 0 ∷ 0 ∷ 0 ∷ 0 ∷ 0 ∷ 0
    ∷ 3 ∷ 0 ∷ 2 ∷ 0 ∷ 0 ∷ 0 ∷ 0 ∷ 0 ∷ 0 ∷ 0 ∷ 0 ∷ 0
    ∷ [])
    245 253
    ∷ block 2 4 2
    (0 ∷ 0 ∷ 0 ∷ 0 ∷ 0 ∷ 0 ∷ 0 ∷ 0 ∷ 0 ∷ 0 ∷ 0 ∷ 0
    ∷ 1 ∷ 0 ∷ 0 ∷ 0 ∷ 0 ∷ 0 ∷ 0 ∷ 0 ∷ 0 ∷ 0 ∷ 0 ∷ 0
    ∷ [])
    250 253
    ∷ block 3 5 6
    (2 ∷ 0 ∷ 0 ∷ 0 ∷ 0 ∷ 0 ∷ 0 ∷ 0 ∷ 3 ∷ 0 ∷ 0 ∷ 0
    ∷ 1 ∷ 0 ∷ 0 ∷ 0 ∷ 0 ∷ 0 ∷ 0 ∷ 0 ∷ 2 ∷ 0 ∷ 0 ∷ 0
    ∷ 2 ∷ 0 ∷ 0 ∷ 0 ∷ 0 ∷ 0 ∷ 0 ∷ 0 ∷ 2 ∷ 0 ∷ 0 ∷ 0
    ∷ 1 ∷ 0 ∷ 0 ∷ 0 ∷ 0 ∷ 0 ∷ 0 ∷ 0 ∷ 3 ∷ 0 ∷ 0 ∷ 0
    ∷ 2 ∷ 0 ∷ 0 ∷ 0 ∷ 0 ∷ 0 ∷ 0 ∷ 0 ∷ 4 ∷ 0 ∷ 0 ∷ 0
    ∷ 1 ∷ 0 ∷ 0 ∷ 0 ∷ 0 ∷ 0 ∷ 0 ∷ 0 ∷ 2 ∷ 0 ∷ 0 ∷ 0
    ∷ [])
    224 249
    ∷ block 4 6 5
    (7 ∷ 0 ∷ 0 ∷ 0 ∷ 0 ∷ 0 ∷ 1 ∷ 0 ∷ 0 ∷ 0 ∷ 0 ∷ 0
    ∷ 7 ∷ 0 ∷ 0 ∷ 0 ∷ 2 ∷ 0 ∷ 3 ∷ 0 ∷ 0 ∷ 0 ∷ 0 ∷ 0
    ∷ 5 ∷ 0 ∷ 0 ∷ 0 ∷ 255 ∷ 255 ∷ 255 ∷ 255 ∷ 0 ∷ 0 ∷ 0 ∷ 0
    ∷ 7 ∷ 0 ∷ 0 ∷ 0 ∷ 4 ∷ 0 ∷ 5 ∷ 0 ∷ 0 ∷ 0 ∷ 0 ∷ 0
    ∷ 5 ∷ 0 ∷ 0 ∷ 0 ∷ 255 ∷ 255 ∷ 255 ∷ 255 ∷ 0 ∷ 0 ∷ 0 ∷ 0
    ∷ [])
    205 250
    ∷ []

unfoldable pub filtered_bytes : List ℕ
filtered_bytes = flatten filtered_blocks

-- what the drivers of a configuration have pending
abbrev pub waveforms : Configuration → List (List Transaction)
waveforms c = map (λ (d : DriverState). d.pending) c.drivers
