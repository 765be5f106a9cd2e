-- Refusals 6 and 7: operands, trees and types.
use Rattle.std.specs.Prelude.{◌≡◌, ℕ, ◌+◌, ◌<◌, Bool, true, ◌&&◌, ◌||◌, List, eqb, leb, ltb, length, get_or}
use Rattle.base.specs.Below.{all_below}
use Rattle.base.specs.Cases.{◌∣◌, ◌⇒◌, ◌is◌⇒◌}
use Rattle.base.specs.Course.{course}
use Rattle.blocks.specs.Records.{Model, signal_at, variable_at, node_at, statement_at}
use Rattle.blocks.specs.declared.records.NodeRecord.{NodeRecord}
use Rattle.blocks.specs.declared.records.StatementRecord.{StatementRecord}
use Rattle.fields.specs.Fields.{absent, assigns}

-- how many operands a node of the kind has: two, one (not, negate) or none
unfoldable pub operands_of : ℕ → ℕ
operands_of kind =
    leb kind 5 ⇒ 0
    ∣ eqb kind 6 ⇒ 1
    ∣ eqb kind 10 ⇒ 1
    ∣ 2

-- "An operand has a lower number than the node that uses it"
unfoldable pub lower_ok : NodeRecord → ℕ → Bool
lower_ok d n =
    operands_of d.kind is 0 ⇒ true
    ∣ operands_of d.kind is 1 ⇒ ltb d.a n
    ∣ (ltb d.a n && ltb d.b n)

-- a node's tree, repeats counted: the node, and the trees of its operands
unfoldable pub size_by : ℕ → ℕ → ℕ → ℕ
size_by kind p q =
    operands_of kind is 0 ⇒ 1
    ∣ operands_of kind is 1 ⇒ (1 + p)
    ∣ (1 + p + q)

unfoldable pub next_size : Model → ℕ → List ℕ → ℕ
next_size M n sizes = size_by (node_at M n).kind (get_or sizes (node_at M n).a 0) (get_or sizes (node_at M n).b 0)

-- the size of node n's tree
unfoldable pub size_of : Model → ℕ → ℕ
size_of M n = course (next_size M) n

-- 6. "An operand's number is not lower, or a tree exceeds 64."
unfoldable pub tree_ok : Model → ℕ → Bool
tree_ok M n = lower_ok (node_at M n) n && leb (size_of M n) 64

unfoldable pub trees_ok : Model → Bool
trees_ok M = all_below (tree_ok M) (length M.nodes)

-- what the size of node n's tree is worked out under: n is there, its operands are lower, and the nodes below it have passed
pub record Measurable (M : Model) (n : ℕ) : Type 0 where
  pub there : n < length M.nodes
  pub lower : lower_ok (node_at M n) n ≡ true
  pub below : (k : ℕ) → k < n → tree_ok M k ≡ true

-- types: 0 integer, 1 logic, 2 boolean, and 3 where the operands' types disagree
abbrev pub integer : ℕ
integer = 0

abbrev pub logic : ℕ
logic = 1

abbrev pub boolean : ℕ
boolean = 2

abbrev pub mistyped : ℕ
mistyped = 3

-- "6 to 9 take logic or boolean, both alike, and give that type; 10 to 12 take and give integers; 13 takes two integers or two
-- logic values, 14 two integers, both give boolean"; 15 to 18 have operands "as those of kinds 10 to 12" (document 02, item 2):
-- the type of a node, p and q being those of its operands
unfoldable pub type_by : Model → NodeRecord → ℕ → ℕ → ℕ
type_by M d p q =
    d.kind is 1 ⇒ integer
    ∣ d.kind is 2 ⇒ logic
    ∣ d.kind is 3 ⇒ (variable_at M d.a).ty
    ∣ d.kind is 4 ⇒ (signal_at M d.a).ty
    ∣ d.kind is 5 ⇒ (signal_at M d.a).ty
    ∣ d.kind is 6 ⇒ (eqb p logic || eqb p boolean ⇒ p ∣ mistyped)
    ∣ d.kind is 10 ⇒ (eqb p integer ⇒ integer ∣ mistyped)
    ∣ d.kind is 13 ⇒ (eqb p q && (eqb p integer || eqb p logic) ⇒ boolean ∣ mistyped)
    ∣ d.kind is 14 ⇒ (eqb p integer && eqb q integer ⇒ boolean ∣ mistyped)
    ∣ leb d.kind 9 ⇒ (eqb p q && (eqb p logic || eqb p boolean) ⇒ p ∣ mistyped)
    ∣ eqb p integer && eqb q integer ⇒ integer
    ∣ mistyped

unfoldable pub next_type : Model → ℕ → List ℕ → ℕ
next_type M n types = type_by M (node_at M n) (get_or types (node_at M n).a mistyped) (get_or types (node_at M n).b mistyped)

-- the type of node n
unfoldable pub type_of : Model → ℕ → ℕ
type_of M n = course (next_type M) n

-- "assigned value, delay (integer) or condition (boolean) included"; kind 7 "obeys the types as kind 2 does"
unfoldable pub statement_typed : Model → StatementRecord → Bool
statement_typed M s =
    s.kind is 1 ⇒ eqb (type_of M s.b) (variable_at M s.a).ty
    ∣ assigns s.kind ⇒ (eqb (type_of M s.b) (signal_at M s.a).ty && eqb (type_of M s.c) integer)
    ∣ s.kind is 3 ⇒ eqb (type_of M s.b) boolean
    ∣ s.kind is 5 ⇒ ((eqb s.b absent || eqb (type_of M s.b) boolean) && (eqb s.c absent || eqb (type_of M s.c) integer))
    ∣ s.kind is 6 ⇒ eqb (type_of M s.c) integer
    ∣ true

-- 7. "Types disagree"
unfoldable pub types_ok : Model → Bool
types_ok M =
    all_below (λ n. leb (type_of M n) 2) (length M.nodes)
    && all_below (λ n. statement_typed M (statement_at M n)) (length M.statements)
