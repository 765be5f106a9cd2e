-- A line with its own pair table (document 02, item 10), beside the same line under the standard's: "That table then replaces the
-- standard's for all the model's logic signals. A single value still resolves to itself, an all-null bus is still Z. For every accepted
-- table, two numberings of a signal's drivers give one value. Answers: 24, the table is not symmetric, after 20; 25, it is not
-- associative, after 24."
use Rattle.std.specs.Prelude.{◌≡◌, true, false, ℕ, get_or, set, take}
use mathlib.Core.List.{List, [], ◌∷◌, ◌++◌, map, flatten}
use Rattle.base.specs.Rules.{first_failing}
use Rattle.values.specs.Nine.{U, X, ‘0’, ‘1’, Z, W, L, H}
use Rattle.values.specs.Bench.{Row, ◌gives◌}
use Rattle.blocks.specs.Records.{plain, bus, Model, model_of}
use Rattle.blocks.specs.Totals.{totals_ok}
use Rattle.blocks.specs.declared.records.RowRecord.{RowRecord}
use Rattle.fields.specs.Fields.{absent}
use Rattle.trees.specs.Trees.{logic}
use Rattle.model.specs.Rules.{record_rules, refusal_of}
use Rattle.rules.specs.Configuration.{DriverState, current_of, resolved_or}
use Rattle.rules.specs.Numberings.{driving_as, Numbering}
use Rattle.session.specs.Lists.{Order, after}
use Rattle.session.specs.OwnTableLaws.{OwnTableLaws}
use Rattle.cases.specs.Forms.{signal, process, driver, node, statement, block, settle_order, delta_step_order, time_step_order}
use Rattle.cases.specs.Claims.{◌by◌}

-- an open-drain line: no output drives it high, so 0 wins over every value, and 1 lets go as Z does
unfoldable pub open_drain : List (List ℕ)
open_drain =
    (U ∷ U ∷ ‘0’ ∷ U ∷ U ∷ U ∷ U ∷ U ∷ U ∷ [])
    ∷ (U ∷ X ∷ ‘0’ ∷ X ∷ X ∷ X ∷ X ∷ X ∷ X ∷ [])
    ∷ (‘0’ ∷ ‘0’ ∷ ‘0’ ∷ ‘0’ ∷ ‘0’ ∷ ‘0’ ∷ ‘0’ ∷ ‘0’ ∷ ‘0’ ∷ [])
    ∷ (U ∷ X ∷ ‘0’ ∷ Z ∷ Z ∷ W ∷ L ∷ H ∷ X ∷ [])
    ∷ (U ∷ X ∷ ‘0’ ∷ Z ∷ Z ∷ W ∷ L ∷ H ∷ X ∷ [])
    ∷ (U ∷ X ∷ ‘0’ ∷ W ∷ W ∷ W ∷ W ∷ W ∷ X ∷ [])
    ∷ (U ∷ X ∷ ‘0’ ∷ L ∷ L ∷ W ∷ L ∷ W ∷ X ∷ [])
    ∷ (U ∷ X ∷ ‘0’ ∷ H ∷ H ∷ W ∷ W ∷ H ∷ X ∷ [])
    ∷ (U ∷ X ∷ ‘0’ ∷ X ∷ X ∷ X ∷ X ∷ X ∷ X ∷ [])
    ∷ []

abbrev pub records : List (List ℕ) → List RowRecord
records rows = map (λ codes. record { codes = codes; zeros = true }) rows

-- signal 0, the line, is of the kind and starts at '1', and so does signal 1, which has one driver.
-- Process 0: 0 <= '0' after 0, null after 1; wait. Process 1: 0 <= '1' after 0, null after 2; wait. Process 2: 0 <= null after 0; wait.
abbrev pub line_by : ℕ → List (List ℕ) → Model
line_by kind rows =
    record {
      signals = signal logic kind ‘1’ ∷ signal logic plain ‘1’ ∷ [];
      variables = [];
      processes = process 0 3 ∷ process 3 3 ∷ process 6 2 ∷ [];
      drivers = driver 0 0 ∷ driver 0 1 ∷ driver 1 0 ∷ driver 2 0 ∷ [];
      nodes = node 2 0 0 ‘0’ ∷ node 2 0 0 ‘1’ ∷ node 1 0 0 0 ∷ node 1 0 0 1 ∷ node 1 0 0 2 ∷ [];
      statements =
          statement 2 0 0 2 0
          ∷ statement 6 0 0 3 0
          ∷ statement 5 0 absent absent 0
          ∷ statement 2 0 1 2 0
          ∷ statement 6 0 0 4 0
          ∷ statement 5 0 absent absent 0
          ∷ statement 6 0 0 2 0
          ∷ statement 5 0 absent absent 0
          ∷ [];
      rows = records rows;
    }

unfoldable pub own_line : Model
own_line = line_by bus open_drain

unfoldable pub standard_line : Model
standard_line = line_by bus []

-- up to the delta step in which 0 and 1 drive, up to that in which 1 drives alone, and up to that in which none does
abbrev pub both : List Order
both = settle_order 20 ∷ delta_step_order ∷ []

abbrev pub alone : List Order
alone = both ++ (time_step_order ∷ delta_step_order ∷ [])

abbrev pub off : List Order
off = alone ++ (time_step_order ∷ delta_step_order ∷ [])

abbrev pub value_after : Model → List Order → ℕ → ℕ
value_after M os s = current_of (after M os).signals s

-- the table with another entry in row x and column y
abbrev pub altered : ℕ → ℕ → ℕ → List (List ℕ)
altered x y v = set open_drain x (set (get_or open_drain x []) y v)

abbrev pub refusal_by : ℕ → List (List ℕ) → ℕ
refusal_by kind rows = first_failing (record_rules (line_by kind rows))

unfoldable pub own_rows : List Row
own_rows =
    (value_after own_line [] 0 gives Z)
    ∷ (value_after standard_line [] 0 gives ‘1’)
    ∷ (value_after own_line both 0 gives ‘0’)
    ∷ (value_after standard_line both 0 gives X)
    ∷ (value_after own_line alone 0 gives ‘1’)
    ∷ (value_after own_line off 0 gives Z)
    ∷ (value_after own_line off 1 gives ‘1’)
    ∷ (refusal_by bus open_drain gives 0)
    ∷ (refusal_by bus (altered Z H 9) gives 5)
    ∷ (refusal_by bus (altered Z H L) gives 24)
    ∷ (refusal_by bus (altered Z Z H) gives 25)
    ∷ (refusal_by plain (altered Z H L) gives 20)
    ∷ []

-- the same model as bytes
unfoldable pub line_signals : List ℕ
line_signals =
    block 0 1 2
    (1 ∷ 1 ∷ 0 ∷ 0 ∷ 3 ∷ 0 ∷ 0 ∷ 0 ∷ 0 ∷ 0 ∷ 0 ∷ 0
    ∷ 1 ∷ 0 ∷ 0 ∷ 0 ∷ 3 ∷ 0 ∷ 0 ∷ 0 ∷ 0 ∷ 0 ∷ 0 ∷ 0
    ∷ [])
    248 252

unfoldable pub line_processes : List ℕ
line_processes =
    block 1 3 3
    (0 ∷ 0 ∷ 3 ∷ 0 ∷ 0 ∷ 0 ∷ 0 ∷ 0 ∷ 0 ∷ 0 ∷ 0 ∷ 0
    ∷ 3 ∷ 0 ∷ 3 ∷ 0 ∷ 0 ∷ 0 ∷ 0 ∷ 0 ∷ 0 ∷ 0 ∷ 0 ∷ 0
    ∷ 6 ∷ 0 ∷ 2 ∷ 0 ∷ 0 ∷ 0 ∷ 0 ∷ 0 ∷ 0 ∷ 0 ∷ 0 ∷ 0
    ∷ [])
    236 252

unfoldable pub line_drivers : List ℕ
line_drivers =
    block 2 4 4
    (0 ∷ 0 ∷ 0 ∷ 0 ∷ 0 ∷ 0 ∷ 0 ∷ 0 ∷ 0 ∷ 0 ∷ 0 ∷ 0
    ∷ 0 ∷ 1 ∷ 0 ∷ 0 ∷ 0 ∷ 0 ∷ 0 ∷ 0 ∷ 0 ∷ 0 ∷ 0 ∷ 0
    ∷ 1 ∷ 0 ∷ 0 ∷ 0 ∷ 0 ∷ 0 ∷ 0 ∷ 0 ∷ 0 ∷ 0 ∷ 0 ∷ 0
    ∷ 2 ∷ 0 ∷ 0 ∷ 0 ∷ 0 ∷ 0 ∷ 0 ∷ 0 ∷ 0 ∷ 0 ∷ 0 ∷ 0
    ∷ [])
    248 250

unfoldable pub line_nodes : List ℕ
line_nodes =
    block 3 5 5
    (2 ∷ 0 ∷ 0 ∷ 0 ∷ 0 ∷ 0 ∷ 0 ∷ 0 ∷ 2 ∷ 0 ∷ 0 ∷ 0
    ∷ 2 ∷ 0 ∷ 0 ∷ 0 ∷ 0 ∷ 0 ∷ 0 ∷ 0 ∷ 3 ∷ 0 ∷ 0 ∷ 0
    ∷ 1 ∷ 0 ∷ 0 ∷ 0 ∷ 0 ∷ 0 ∷ 0 ∷ 0 ∷ 0 ∷ 0 ∷ 0 ∷ 0
    ∷ 1 ∷ 0 ∷ 0 ∷ 0 ∷ 0 ∷ 0 ∷ 0 ∷ 0 ∷ 1 ∷ 0 ∷ 0 ∷ 0
    ∷ 1 ∷ 0 ∷ 0 ∷ 0 ∷ 0 ∷ 0 ∷ 0 ∷ 0 ∷ 2 ∷ 0 ∷ 0 ∷ 0
    ∷ [])
    234 250

unfoldable pub line_statements : List ℕ
line_statements =
    block 4 6 8
    (2 ∷ 0 ∷ 0 ∷ 0 ∷ 0 ∷ 0 ∷ 2 ∷ 0 ∷ 0 ∷ 0 ∷ 0 ∷ 0
    ∷ 6 ∷ 0 ∷ 0 ∷ 0 ∷ 0 ∷ 0 ∷ 3 ∷ 0 ∷ 0 ∷ 0 ∷ 0 ∷ 0
    ∷ 5 ∷ 0 ∷ 0 ∷ 0 ∷ 255 ∷ 255 ∷ 255 ∷ 255 ∷ 0 ∷ 0 ∷ 0 ∷ 0
    ∷ 2 ∷ 0 ∷ 0 ∷ 0 ∷ 1 ∷ 0 ∷ 2 ∷ 0 ∷ 0 ∷ 0 ∷ 0 ∷ 0
    ∷ 6 ∷ 0 ∷ 0 ∷ 0 ∷ 0 ∷ 0 ∷ 4 ∷ 0 ∷ 0 ∷ 0 ∷ 0 ∷ 0
    ∷ 5 ∷ 0 ∷ 0 ∷ 0 ∷ 255 ∷ 255 ∷ 255 ∷ 255 ∷ 0 ∷ 0 ∷ 0 ∷ 0
    ∷ 6 ∷ 0 ∷ 0 ∷ 0 ∷ 0 ∷ 0 ∷ 2 ∷ 0 ∷ 0 ∷ 0 ∷ 0 ∷ 0
    ∷ 5 ∷ 0 ∷ 0 ∷ 0 ∷ 255 ∷ 255 ∷ 255 ∷ 255 ∷ 0 ∷ 0 ∷ 0 ∷ 0
    ∷ [])
    202 247

unfoldable pub line_table : List ℕ
line_table =
    block 5 7 9
    (0 ∷ 0 ∷ 2 ∷ 0 ∷ 0 ∷ 0 ∷ 0 ∷ 0 ∷ 0 ∷ 0 ∷ 0 ∷ 0
    ∷ 0 ∷ 1 ∷ 2 ∷ 1 ∷ 1 ∷ 1 ∷ 1 ∷ 1 ∷ 1 ∷ 0 ∷ 0 ∷ 0
    ∷ 2 ∷ 2 ∷ 2 ∷ 2 ∷ 2 ∷ 2 ∷ 2 ∷ 2 ∷ 2 ∷ 0 ∷ 0 ∷ 0
    ∷ 0 ∷ 1 ∷ 2 ∷ 4 ∷ 4 ∷ 5 ∷ 6 ∷ 7 ∷ 1 ∷ 0 ∷ 0 ∷ 0
    ∷ 0 ∷ 1 ∷ 2 ∷ 4 ∷ 4 ∷ 5 ∷ 6 ∷ 7 ∷ 1 ∷ 0 ∷ 0 ∷ 0
    ∷ 0 ∷ 1 ∷ 2 ∷ 5 ∷ 5 ∷ 5 ∷ 5 ∷ 5 ∷ 1 ∷ 0 ∷ 0 ∷ 0
    ∷ 0 ∷ 1 ∷ 2 ∷ 6 ∷ 6 ∷ 5 ∷ 6 ∷ 5 ∷ 1 ∷ 0 ∷ 0 ∷ 0
    ∷ 0 ∷ 1 ∷ 2 ∷ 7 ∷ 7 ∷ 5 ∷ 5 ∷ 7 ∷ 1 ∷ 0 ∷ 0 ∷ 0
    ∷ 0 ∷ 1 ∷ 2 ∷ 1 ∷ 1 ∷ 1 ∷ 1 ∷ 1 ∷ 1 ∷ 0 ∷ 0 ∷ 0
    ∷ [])
    154 143

unfoldable pub line_blocks : List (List ℕ)
line_blocks = line_signals ∷ line_processes ∷ line_drivers ∷ line_nodes ∷ line_statements ∷ line_table ∷ []

unfoldable pub line_bytes : List ℕ
line_bytes = flatten line_blocks

-- the drivers in the order of their records, and in another
abbrev pub risen : List ℕ
risen = 0 ∷ 1 ∷ 2 ∷ 3 ∷ []

abbrev pub fallen : List ℕ
fallen = 3 ∷ 2 ∷ 1 ∷ 0 ∷ []

-- the drivers where 0 and 1 drive; what they add by an order of their numbers, and the value that this gives
abbrev pub driving : List DriverState
driving = (after own_line both).drivers

abbrev pub value_by : Model → List ℕ → ℕ
value_by M ks = resolved_or M Z (driving_as M driving 0 ks)

pub record OwnTablePlayed : Type 0 where
  pub said : map (λ r. r.said) own_rows ≡ Z ∷ ‘1’ ∷ ‘0’ ∷ X ∷ ‘1’ ∷ Z ∷ ‘1’ ∷ 0 ∷ 5 ∷ 24 ∷ 25 ∷ 20 ∷ []
  pub eight : totals_ok (line_by bus (take 8 open_drain)) ≡ false
  pub read : model_of line_bytes ≡ own_line
  pub accepted : refusal_of line_bytes ≡ 0

-- the theorem of numberings, used on the line
pub record OwnTableUsed : Type 0 where
  pub laws : OwnTableLaws
  pub accepted : refusal_of line_bytes ≡ 0
  pub rising : driving_as own_line driving 0 risen ≡ ‘0’ ∷ ‘1’ ∷ []
  pub falling : driving_as own_line driving 0 fallen ≡ ‘1’ ∷ ‘0’ ∷ []
  pub risen_numbers : Numbering (model_of line_bytes) risen
  pub fallen_numbers : Numbering (model_of line_bytes) fallen
  pub same : value_by (model_of line_bytes) fallen ≡ value_by (model_of line_bytes) risen
      by (laws.numberings line_bytes accepted).any driving 0 Z fallen risen fallen_numbers risen_numbers
  pub value : value_by (model_of line_bytes) fallen ≡ ‘0’
