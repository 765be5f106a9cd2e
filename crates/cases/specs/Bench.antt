-- The rows of the proved table for the cases marked [p] of document 01 that a list of orders shows.
-- A case is a small model and a list of orders, played from the model's first configuration.
use Rattle.std.specs.Prelude.{List, [], ◌∷◌, ℕ, length, get_or}
use Rattle.values.specs.Bench.{Row, ◌gives◌}
use Rattle.blocks.specs.Records.{plain, Model}
use Rattle.trees.specs.Trees.{integer}
use Rattle.rules.specs.Configuration.{driver_in}
use Rattle.session.specs.Lists.{Order, after}
use Rattle.cases.specs.Forms.{signal, variable, process, driver, node, statement, pick_order, settle_order}
use Rattle.cases.specs.Answers.{answer_to, said_in, picks_in, fault_in}

-- variable 0 starts at 2,147,483,646. Process 0: variable 0 := variable 0 + 1
abbrev pub adder : Model
adder =
    record {
      signals = [];
      variables = variable integer 0 2147483646 ∷ [];
      processes = process 0 1 ∷ [];
      drivers = [];
      nodes = node 3 0 0 0 ∷ node 1 0 0 1 ∷ node 11 0 1 0 ∷ [];
      statements = statement 1 0 2 0 0 ∷ [];
      rows = [];
    }

-- "[p] 2,147,483,646 + 1 fits; one more is fault 1."
unfoldable pub sum_rows : List Row
sum_rows =
    (fault_in (answer_to adder (pick_order 0 ∷ []) 0) gives 0)
    ∷ (get_or (after adder (pick_order 0 ∷ [])).variables 0 0 gives 2147483647)
    ∷ (fault_in (answer_to adder (pick_order 0 ∷ pick_order 0 ∷ []) 1) gives 1)
    ∷ []

-- "[p] A settle with count 0 on a ready process answers 1 with 0 picks."
unfoldable pub settle_rows : List Row
settle_rows =
    (said_in (answer_to adder (settle_order 0 ∷ []) 0) gives 1)
    ∷ (picks_in (answer_to adder (settle_order 0 ∷ []) 0) gives 0)
    ∷ []

-- variable 0 starts at 1. Process 0: signal 0 <= variable 0 after variable 0; variable 0 := variable 0 + 1
abbrev pub scheduler : Model
scheduler =
    record {
      signals = signal integer plain 0 ∷ [];
      variables = variable integer 0 1 ∷ [];
      processes = process 0 2 ∷ [];
      drivers = driver 0 0 ∷ [];
      nodes = node 3 0 0 0 ∷ node 1 0 0 1 ∷ node 11 0 1 0 ∷ [];
      statements = statement 2 0 0 0 0 ∷ statement 1 0 2 0 0 ∷ [];
      rows = [];
    }

-- how many transactions driver 0 has pending after a list of orders
abbrev pub pending_after : List Order → ℕ
pending_after os = length (driver_in (after scheduler os).drivers 0).pending

-- "[p] With seven pending, an eighth later one is kept; a ninth later one is fault 3."
unfoldable pub pending_rows : List Row
pending_rows =
    (pending_after (settle_order 14 ∷ []) gives 7)
    ∷ (pending_after (settle_order 14 ∷ pick_order 0 ∷ []) gives 8)
    ∷ (fault_in (answer_to scheduler (settle_order 14 ∷ pick_order 0 ∷ []) 1) gives 0)
    ∷ (pending_after (settle_order 16 ∷ pick_order 0 ∷ []) gives 8)
    ∷ (fault_in (answer_to scheduler (settle_order 16 ∷ pick_order 0 ∷ []) 1) gives 3)
    ∷ []
