-- The value of an expression: node kinds 1 to 18.
-- "1 integer k; 2 logic k; 3 variable a; 4 signal a; 5 signal a delayed by k, 0 to 31; 6 not a; 7 and; 8 or; 9 xor; 10 negate
-- a; 11 a + b; 12 a - b; 13 equal; 14 less." Document 02, item 2: "Node kinds 15 to 18 are product, quotient, mod and rem on
-- integers."
use Rattle.std.specs.Prelude.{Bool, true, false, not, ◌&&◌, List, ℕ, ◌≤◌, eqb, ltb, get_or, ℤ, nat_abs, neg_ℤ, ◌+ℤ◌, ◌-ℤ◌, ◌*ℤ◌, Ok, Err}
use Rattle.std.specs.Int.Signed.{lt_z}
use Rattle.std.specs.Int.{w32}
use Rattle.std.proofs.Common.{to_z, of_z}
use Rattle.base.specs.Cases.{◌∣◌, ◌⇒◌, ◌is◌⇒◌}
use Rattle.base.specs.Course.{course}
use Rattle.values.specs.Operators.{not_of, and_of, or_of, xor_of}
use Rattle.integers.specs.Division.{quotient, rem, modulo}
use Rattle.blocks.specs.Records.{Model, node_at}
use Rattle.blocks.specs.declared.records.NodeRecord.{NodeRecord}
use Rattle.trees.specs.Trees.{boolean, type_of}
use Rattle.rules.specs.declared.value.Failure.{Failure}
use Rattle.rules.specs.Values.{Value}
use Rattle.rules.specs.declared.moment.Moment.{Moment}
use Rattle.rules.specs.declared.moment.Moment.TheVariants.{Now, DeltaAgo, UnitsAgo}
use Rattle.rules.specs.Configuration.{past_of, current_of}

-- what an expression reads: a variable, and a signal at a moment: now, one delta ago or some units ago
pub record Environment : Type 0 where
  pub variable : ℕ → ℕ
  pub signal : ℕ → Moment → ℕ

-- the moment of "delayed by k". Document 02, item 4, of a delay of 0: "It shall read the value that the signal had before the latest
-- delta step".
abbrev pub delayed_by : ℕ → Moment
delayed_by k = k is 0 ⇒ DeltaAgo ∣ UnitsAgo k

-- the moments of which a configuration holds the signals' values
abbrev pub Held : Moment → Type 0
Held Now = Unit {0}
Held DeltaAgo = Unit {0}
Held (UnitsAgo k) = k ≤ 31

-- signal s at a moment: ss are the signals' values of 0 to 31 units ago, es their earlier ones
abbrev pub signal_in : List (List ℕ) → List ℕ → ℕ → Moment → ℕ
signal_in ss es s Now = current_of ss s
signal_in ss es s DeltaAgo = get_or es s 0
signal_in ss es s (UnitsAgo k) = past_of ss s k

abbrev pub environment_of : List ℕ → List (List ℕ) → List ℕ → Environment
environment_of vs ss es = record { variable = λ a. get_or vs a 0; signal = signal_in ss es }

-- a boolean's value
abbrev pub truth : Bool → ℕ
truth true = 1
truth false = 0

-- the integer that 32 bits hold
abbrev pub int : ℕ → ℤ
int x = to_z w32 x

-- The node at fault (document 02, item 3): "the number of the first node that failed in the order of evaluation, 65,535 for faults 2
-- and 3". An operation that fails gives its fault and the number n of its own node, which every node above it hands on (`one`, `two`).
abbrev pub failure : ℕ → ℕ → Failure
failure n f = record { fault = f; node = n }

abbrev pub no_node : ℕ
no_node = 65535

-- the operation of node n fails
abbrev pub failed_at : ℕ → ℕ → Value
failed_at n f = Err (failure n f)

-- "Integers run from -2,147,483,647 to 2,147,483,647"; fault 1: "an integer out of range". z is the result of node n's operation.
unfoldable pub ranged : ℕ → ℤ → Value
ranged n z = ltb (nat_abs z) 2147483648 ⇒ Ok (of_z w32 z) ∣ failed_at n 1

unfoldable pub negate_of : ℕ → ℕ → Value
negate_of n x = ranged n (neg_ℤ (int x))

unfoldable pub sum_of : ℕ → ℕ → ℕ → Value
sum_of n x y = ranged n (int x +ℤ int y)

unfoldable pub difference_of : ℕ → ℕ → ℕ → Value
difference_of n x y = ranged n (int x -ℤ int y)

unfoldable pub equal_of : ℕ → ℕ → Value
equal_of x y = Ok (truth (eqb x y))

unfoldable pub less_of : ℕ → ℕ → Value
less_of x y = Ok (truth (lt_z (int x) (int y)))

-- "A product out of range is fault 1"
unfoldable pub product_of : ℕ → ℕ → ℕ → Value
product_of n x y = ranged n (int x *ℤ int y)

-- "A divisor of 0 is the new fault 4": the division f of node n's operands. It never leaves the range, which has both ends alike
-- (`integers/specs/Laws`).
unfoldable pub divided : ℕ → (ℤ → ℤ → ℤ) → ℕ → ℕ → Value
divided n f x y = eqb y 0 ⇒ failed_at n 4 ∣ Ok (of_z w32 (f (int x) (int y)))

-- "a before b": f of one operand, or its fault
abbrev pub one : Value → (ℕ → Value) → Value
one (Err e) f = Err e
one (Ok x) f = f x

-- f of two operands, or the first one's fault, or the second one's
abbrev pub two : Value → Value → (ℕ → ℕ → Value) → Value
two p q f = one p (λ x. one q (λ y. f x y))

-- "boolean `and` and `or` skip b when a decides": a false decides `and`, a true `or`; else b is the value
abbrev pub unless_first : ℕ → Value → Value → Value
unless_first decides p q = one p (λ x. eqb x decides ⇒ Ok x ∣ q)

-- b is not evaluated: a is a fault, or a boolean that decides
abbrev pub decided_by : ℕ → Value → ℕ → Bool
decided_by ty (Err e) decides = true
decided_by ty (Ok x) decides = eqb ty boolean && eqb x decides

-- "6 to 9 take logic or boolean, both alike": by the node's type
abbrev pub not_by : ℕ → Value → Value
not_by ty p = eqb ty boolean ⇒ one p (λ x. Ok (truth (eqb x 0))) ∣ one p (λ x. Ok (not_of x))

abbrev pub and_by : ℕ → Value → Value → Value
and_by ty p q = eqb ty boolean ⇒ unless_first 0 p q ∣ two p q (λ x y. Ok (and_of x y))

abbrev pub or_by : ℕ → Value → Value → Value
or_by ty p q = eqb ty boolean ⇒ unless_first 1 p q ∣ two p q (λ x y. Ok (or_of x y))

abbrev pub xor_by : ℕ → Value → Value → Value
xor_by ty p q = eqb ty boolean ⇒ two p q (λ x y. Ok (truth (not (eqb x y)))) ∣ two p q (λ x y. Ok (xor_of x y))

-- the value of node n, whose record is d and whose type is ty, p and q being those of its operands. An accepted model has no other
-- kind.
unfoldable pub value_by : Environment → ℕ → NodeRecord → ℕ → Value → Value → Value
value_by e n d ty p q =
    d.kind is 1 ⇒ Ok d.k
    ∣ d.kind is 2 ⇒ Ok d.k
    ∣ d.kind is 3 ⇒ Ok (e.variable d.a)
    ∣ d.kind is 4 ⇒ Ok (e.signal d.a Now)
    ∣ d.kind is 5 ⇒ Ok (e.signal d.a (delayed_by d.k))
    ∣ d.kind is 6 ⇒ not_by ty p
    ∣ d.kind is 7 ⇒ and_by ty p q
    ∣ d.kind is 8 ⇒ or_by ty p q
    ∣ d.kind is 9 ⇒ xor_by ty p q
    ∣ d.kind is 10 ⇒ one p (negate_of n)
    ∣ d.kind is 11 ⇒ two p q (sum_of n)
    ∣ d.kind is 12 ⇒ two p q (difference_of n)
    ∣ d.kind is 13 ⇒ two p q equal_of
    ∣ d.kind is 14 ⇒ two p q less_of
    ∣ d.kind is 15 ⇒ two p q (product_of n)
    ∣ d.kind is 16 ⇒ two p q (divided n quotient)
    ∣ d.kind is 17 ⇒ two p q (divided n modulo)
    ∣ d.kind is 18 ⇒ two p q (divided n rem)
    ∣ Ok 0

unfoldable pub next_value : Model → Environment → ℕ → List Value → Value
next_value M e n values =
    value_by e n (node_at M n) (type_of M n) (get_or values (node_at M n).a (Ok 0)) (get_or values (node_at M n).b (Ok 0))

-- the value of node n
unfoldable pub eval_of : Model → Environment → ℕ → Value
eval_of M e n = course (next_value M e) n
