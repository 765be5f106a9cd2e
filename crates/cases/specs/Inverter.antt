-- The inverter of the bench: its model, its bytes, its orders, and all that `playbench` prints of it.
use Rattle.std.specs.Prelude.{◌≡◌, ℕ, replicate}
use mathlib.Core.List.{List, [], ◌∷◌, flat_map, flatten}
use Prim.Native.String.{String}
use Rattle.blocks.specs.Records.{plain, Model, model_of}
use Rattle.fields.specs.Fields.{absent}
use Rattle.trees.specs.Trees.{logic}
use Rattle.model.specs.Rules.{refusal_of}
use Rattle.session.specs.Lists.{Order, orders_of}
use Rattle.session.specs.Sessions.{session_of}
use Rattle.numerals.specs.Numerals.{line_feed}
use Rattle.text.specs.Text.{ended, text_of}
use Rattle.vcd.specs.Lines.{word_of}
use Rattle.cases.specs.Forms.{signal, process, driver, node, statement, block, settle_order, read_order, delta_step_order, time_step_order}

-- "Inverter: signals 0 = i, 1 = o, logic, both starting at value 0 (code 2). Process 0: o <= not i after 0; wait on i. Process
-- 1: i <= 1 after 1; wait."
unfoldable pub inverter : Model
inverter =
    record {
      signals = signal logic plain 2 ∷ signal logic plain 2 ∷ [];
      variables = [];
      processes = process 0 2 ∷ process 2 2 ∷ [];
      drivers = driver 0 1 ∷ driver 1 0 ∷ [];
      nodes = node 4 0 0 0 ∷ node 6 0 0 0 ∷ node 1 0 0 0 ∷ node 2 0 0 3 ∷ node 1 0 0 1 ∷ [];
      statements = statement 2 1 1 2 0 ∷ statement 5 0 absent absent 1 ∷ statement 2 0 3 4 0 ∷ statement 5 0 absent absent 0 ∷ [];
      rows = [];
    }

-- the same model as bytes: a block for each kind of which it has records
unfoldable pub signal_block : List ℕ
signal_block =
    block 0 1 2
    (1 ∷ 0 ∷ 0 ∷ 0 ∷ 2 ∷ 0 ∷ 0 ∷ 0 ∷ 0 ∷ 0 ∷ 0 ∷ 0
    ∷ 1 ∷ 0 ∷ 0 ∷ 0 ∷ 2 ∷ 0 ∷ 0 ∷ 0 ∷ 0 ∷ 0 ∷ 0 ∷ 0
    ∷ [])
    250 253

unfoldable pub process_block : List ℕ
process_block =
    block 1 3 2
    (0 ∷ 0 ∷ 2 ∷ 0 ∷ 0 ∷ 0 ∷ 0 ∷ 0 ∷ 0 ∷ 0 ∷ 0 ∷ 0
    ∷ 2 ∷ 0 ∷ 2 ∷ 0 ∷ 0 ∷ 0 ∷ 0 ∷ 0 ∷ 0 ∷ 0 ∷ 0 ∷ 0
    ∷ [])
    247 253

unfoldable pub driver_block : List ℕ
driver_block =
    block 2 4 2
    (0 ∷ 1 ∷ 0 ∷ 0 ∷ 0 ∷ 0 ∷ 0 ∷ 0 ∷ 0 ∷ 0 ∷ 0 ∷ 0
    ∷ 1 ∷ 0 ∷ 0 ∷ 0 ∷ 0 ∷ 0 ∷ 0 ∷ 0 ∷ 0 ∷ 0 ∷ 0 ∷ 0
    ∷ [])
    250 252

unfoldable pub node_block : List ℕ
node_block =
    block 3 5 5
    (4 ∷ 0 ∷ 0 ∷ 0 ∷ 0 ∷ 0 ∷ 0 ∷ 0 ∷ 0 ∷ 0 ∷ 0 ∷ 0
    ∷ 6 ∷ 0 ∷ 0 ∷ 0 ∷ 0 ∷ 0 ∷ 0 ∷ 0 ∷ 0 ∷ 0 ∷ 0 ∷ 0
    ∷ 1 ∷ 0 ∷ 0 ∷ 0 ∷ 0 ∷ 0 ∷ 0 ∷ 0 ∷ 0 ∷ 0 ∷ 0 ∷ 0
    ∷ 2 ∷ 0 ∷ 0 ∷ 0 ∷ 0 ∷ 0 ∷ 0 ∷ 0 ∷ 3 ∷ 0 ∷ 0 ∷ 0
    ∷ 1 ∷ 0 ∷ 0 ∷ 0 ∷ 0 ∷ 0 ∷ 0 ∷ 0 ∷ 1 ∷ 0 ∷ 0 ∷ 0
    ∷ [])
    231 250

unfoldable pub statement_block : List ℕ
statement_block =
    block 4 6 4
    (2 ∷ 0 ∷ 1 ∷ 0 ∷ 1 ∷ 0 ∷ 2 ∷ 0 ∷ 0 ∷ 0 ∷ 0 ∷ 0
    ∷ 5 ∷ 0 ∷ 0 ∷ 0 ∷ 255 ∷ 255 ∷ 255 ∷ 255 ∷ 1 ∷ 0 ∷ 0 ∷ 0
    ∷ 2 ∷ 0 ∷ 0 ∷ 0 ∷ 3 ∷ 0 ∷ 4 ∷ 0 ∷ 0 ∷ 0 ∷ 0 ∷ 0
    ∷ 5 ∷ 0 ∷ 0 ∷ 0 ∷ 255 ∷ 255 ∷ 255 ∷ 255 ∷ 0 ∷ 0 ∷ 0 ∷ 0
    ∷ [])
    225 251

unfoldable pub inverter_blocks : List (List ℕ)
inverter_blocks = signal_block ∷ process_block ∷ driver_block ∷ node_block ∷ statement_block ∷ []

unfoldable pub inverter_bytes : List ℕ
inverter_bytes = flatten inverter_blocks

-- "Orders: settle 10, advance three times, settle 10, advance twice, read 1." Document 02, item 9: "the bench case has 6, 7, 6 and then
-- 6, 7"
unfoldable pub inverter_orders : List Order
inverter_orders =
    settle_order 10 ∷ delta_step_order ∷ time_step_order ∷ delta_step_order ∷ settle_order 10 ∷ delta_step_order ∷ time_step_order ∷ read_order 1 ∷ []

-- the same as bytes
abbrev pub inverter_order_bytes : List ℕ
inverter_order_bytes =
    3 ∷ 0 ∷ 10 ∷ 0
    ∷ 6 ∷ 0 ∷ 0 ∷ 0
    ∷ 7 ∷ 0 ∷ 0 ∷ 0
    ∷ 6 ∷ 0 ∷ 0 ∷ 0
    ∷ 3 ∷ 0 ∷ 10 ∷ 0
    ∷ 6 ∷ 0 ∷ 0 ∷ 0
    ∷ 7 ∷ 0 ∷ 0 ∷ 0
    ∷ 4 ∷ 1 ∷ 0 ∷ 0
    ∷ []

-- some lines, as bytes
unfoldable pub printed : List String → List ℕ
printed ts = flat_map (λ t. ended (word_of t) line_feed) ts

-- "All it prints", with the node's column of document 02, item 3
unfoldable pub inverter_lines : List String
inverter_lines =
    "0 0 4 0 0 0"
    ∷ "0 1 0 0 0 0"
    ∷ "0 2 0 0 0 1"
    ∷ "0 1 0 0 0 1"
    ∷ "0 0 2 0 0 1"
    ∷ "0 1 0 0 0 1"
    ∷ "17 0 0 0 0 1"
    ∷ "0 0 0 2 0 1"
    ∷ []

-- the bytes hold the model and the orders; no refusal applies, and what is printed are those lines
pub record InverterPlayed : Type 0 where
  pub model_read : model_of inverter_bytes ≡ inverter
  pub orders_read : orders_of inverter_order_bytes ≡ inverter_orders
  pub accepted : refusal_of inverter_bytes ≡ 0
  pub number : (session_of inverter_bytes inverter_order_bytes (replicate 128 0)).number ≡ 0
  pub prints : text_of inverter_bytes inverter_order_bytes ≡ printed inverter_lines
