-- The rows of the proved table for product, quotient, mod and rem: "The signs around zero and both ends of the range belong in the
-- proved table" (document 02, item 2). Each case is an expression that process 0 works out, and what comes of it.
use Rattle.std.specs.Prelude.{◌≡◌, List, [], ◌∷◌, map, ◌++◌, ℕ, ◌-◌, ℤ, pos, negsuc, length, get_or}
use Rattle.session.specs.Lists.{after}
use Rattle.base.specs.Rules.{first_failing}
use Rattle.values.specs.Bench.{Row, ◌gives◌}
use Rattle.integers.specs.Laws.{Leaves}
use Rattle.blocks.specs.Records.{Model}
use Rattle.blocks.specs.declared.records.NodeRecord.{NodeRecord}
use Rattle.trees.specs.Trees.{integer}
use Rattle.model.specs.Rules.{record_rules}
use Rattle.cases.specs.Forms.{variable, process, node, statement, pick_order}
use Rattle.cases.specs.Answers.{answer_to, fault_in}

-- an expression: its nodes, the last of which is its root; and its value, or its fault
pub record Case : Type 0 where
  pub nodes : List NodeRecord
  pub said : ℕ

infix 4 ◌makes◌
abbrev pub ◌makes◌ : List NodeRecord → ℕ → Case
ns makes x = record { nodes = ns; said = x }

-- the 32 bits of -n, and the upper end of the range
abbrev pub minus : ℕ → ℕ
minus n = 4294967296 - n

abbrev pub most : ℕ
most = 2147483647

-- two constants, and a node of the kind over them
abbrev pub constants : ℕ → ℕ → ℕ → List NodeRecord
constants kind x y = node 1 0 0 x ∷ node 1 0 0 y ∷ node kind 0 1 0 ∷ []

infix 5 ◌times◌ ◌over◌ ◌modulo◌ ◌rem◌
abbrev pub ◌times◌ : ℕ → ℕ → List NodeRecord
x times y = constants 15 x y

abbrev pub ◌over◌ : ℕ → ℕ → List NodeRecord
x over y = constants 16 x y

abbrev pub ◌modulo◌ : ℕ → ℕ → List NodeRecord
x modulo y = constants 17 x y

abbrev pub ◌rem◌ : ℕ → ℕ → List NodeRecord
x rem y = constants 18 x y

-- the signs around zero
unfoldable pub sign_cases : List Case
sign_cases =
    (7 over 2 makes 3)
    ∷ (minus 7 over 2 makes minus 3)
    ∷ (7 over minus 2 makes minus 3)
    ∷ (minus 7 over minus 2 makes 3)
    ∷ (7 modulo 2 makes 1)
    ∷ (minus 7 modulo 2 makes 1)
    ∷ (7 modulo minus 2 makes minus 1)
    ∷ (minus 7 modulo minus 2 makes minus 1)
    ∷ (7 rem 2 makes 1)
    ∷ (minus 7 rem 2 makes minus 1)
    ∷ (7 rem minus 2 makes 1)
    ∷ (minus 7 rem minus 2 makes minus 1)
    ∷ (1 over 3 makes 0)
    ∷ (minus 1 over 3 makes 0)
    ∷ (1 over minus 3 makes 0)
    ∷ (minus 1 over minus 3 makes 0)
    ∷ (1 modulo 3 makes 1)
    ∷ (minus 1 modulo 3 makes 2)
    ∷ (1 modulo minus 3 makes minus 2)
    ∷ (minus 1 modulo minus 3 makes minus 1)
    ∷ (1 rem 3 makes 1)
    ∷ (minus 1 rem 3 makes minus 1)
    ∷ (1 rem minus 3 makes 1)
    ∷ (minus 1 rem minus 3 makes minus 1)
    ∷ (0 over 5 makes 0)
    ∷ (0 over minus 5 makes 0)
    ∷ (0 modulo 5 makes 0)
    ∷ (0 modulo minus 5 makes 0)
    ∷ (0 rem 5 makes 0)
    ∷ (0 rem minus 5 makes 0)
    ∷ (7 over 1 makes 7)
    ∷ (7 over minus 1 makes minus 7)
    ∷ (7 modulo 1 makes 0)
    ∷ (7 modulo minus 1 makes 0)
    ∷ (7 rem 1 makes 0)
    ∷ (7 rem minus 1 makes 0)
    ∷ []

-- both ends of the range
unfoldable pub end_cases : List Case
end_cases =
    (most over minus 1 makes minus most)
    ∷ (minus most over minus 1 makes most)
    ∷ (most over 2 makes 1073741823)
    ∷ (minus most over 2 makes minus 1073741823)
    ∷ (most over most makes 1)
    ∷ (minus most over minus most makes 1)
    ∷ (most over minus most makes minus 1)
    ∷ (most modulo minus 1 makes 0)
    ∷ (minus most modulo minus 1 makes 0)
    ∷ (most modulo 2 makes 1)
    ∷ (minus most modulo 2 makes 1)
    ∷ (most modulo most makes 0)
    ∷ (minus most modulo minus most makes 0)
    ∷ (minus 1 modulo most makes 2147483646)
    ∷ (1 modulo minus most makes minus 2147483646)
    ∷ (most rem minus 1 makes 0)
    ∷ (minus most rem minus 1 makes 0)
    ∷ (most rem 2 makes 1)
    ∷ (minus most rem 2 makes minus 1)
    ∷ (most rem most makes 0)
    ∷ (minus most rem minus most makes 0)
    ∷ (most times 1 makes most)
    ∷ (most times minus 1 makes minus most)
    ∷ (minus most times minus 1 makes most)
    ∷ (46341 times 46340 makes 2147441940)
    ∷ (46341 times minus 46340 makes minus 2147441940)
    ∷ []

-- node 3 is fault 1, node 4 fault 4; the last takes nodes a and b
abbrev pub failing : ℕ → ℕ → ℕ → List NodeRecord
failing kind a b =
    node 1 0 0 most ∷ node 1 0 0 1 ∷ node 1 0 0 0 ∷ node 11 0 1 0 ∷ node 16 1 2 0 ∷ node kind a b 0 ∷ []

-- "A divisor of 0 is the new fault 4. A product out of range is fault 1." A fault of a comes first, then one of b.
unfoldable pub fault_cases : List Case
fault_cases =
    (65536 times 32768 makes 1)
    ∷ (65536 times minus 32768 makes 1)
    ∷ (most times minus most makes 1)
    ∷ (7 over 0 makes 4)
    ∷ (7 modulo 0 makes 4)
    ∷ (7 rem 0 makes 4)
    ∷ (0 over 0 makes 4)
    ∷ (0 modulo 0 makes 4)
    ∷ (0 rem 0 makes 4)
    ∷ (failing 16 3 2 makes 1)
    ∷ (failing 17 1 3 makes 1)
    ∷ (failing 18 3 4 makes 1)
    ∷ (failing 15 4 3 makes 4)
    ∷ []

-- variable 0 starts at 9. Process 0: variable 0 := the last of the nodes
abbrev pub worker : List NodeRecord → Model
worker ns =
    record {
      signals = [];
      variables = variable integer 0 9 ∷ [];
      processes = process 0 1 ∷ [];
      drivers = [];
      nodes = ns;
      statements = statement 1 0 (length ns - 1) 0 0 ∷ [];
      rows = [];
    }

-- what one pick of process 0 leaves in variable 0, and the fault that its answer tells
abbrev pub value_row : Case → Row
value_row c = get_or (after (worker c.nodes) (pick_order 0 ∷ [])).variables 0 0 gives c.said

abbrev pub fault_row : Case → Row
fault_row c = fault_in (answer_to (worker c.nodes) (pick_order 0 ∷ []) 0) gives c.said

unfoldable pub arithmetic_rows : List Row
arithmetic_rows = map value_row sign_cases ++ map value_row end_cases ++ map fault_row fault_cases

-- the first rule that each case's model breaks
unfoldable pub arithmetic_refusals : List ℕ
arithmetic_refusals = map (λ c. first_failing (record_rules (worker c.nodes))) (sign_cases ++ end_cases ++ fault_cases)

-- the laws of division used once: they say what -7 by 2 leaves with the sign of -7, and with that of 2
pub record DivisionUsed : Type 0 where
  pub dividend_sign : (q r : ℤ) → Leaves (negsuc 6) (negsuc 6) (pos 2) q r → (q ≡ negsuc 2) × (r ≡ negsuc 0)
  pub divisor_sign : (q r : ℤ) → Leaves (pos 2) (negsuc 6) (pos 2) q r → r ≡ pos 1
