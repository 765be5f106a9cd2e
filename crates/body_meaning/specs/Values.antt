-- The meaning of an expression, over its tree: source document 000, rules 1 to 7, with the operators, faults and delays of documents 01 and 02.
-- Of the model M it reads the given records alone: the types of signals and variables.
use Rattle.std.specs.Prelude.{ℕ, ◌+◌, Ok}
use Rattle.blocks.specs.Records.{Model, signal_at, variable_at}
use Rattle.blocks.specs.declared.records.NodeRecord.{NodeRecord}
use Rattle.trees.specs.Trees.{integer, logic as logic-type, mistyped, type_by}
use Rattle.rules.specs.Values.{Value}
use Rattle.rules.specs.declared.moment.Moment.TheVariants.{Now}
use Rattle.rules.specs.Evaluation.{Environment, delayed_by, value_by}
use Rattle.grammar.specs.Grammar.{Expression, number, logic, signal, variable, delayed, unary, binary}
use Rattle.grammar.specs.Made.{node, nodes_in, root_of}

-- an operator is told by its node kind alone: what `type_by` and `value_by` say of kinds 6 to 18 rests on nothing else of the record
abbrev pub operator : ℕ → NodeRecord
operator kind = node kind 0 0 0

-- the type of an expression
unfoldable pub type_in : Model → Expression → ℕ
type_in M (number n) = integer
type_in M (logic n) = logic-type
type_in M (signal n) = (signal_at M n).ty
type_in M (variable n) = (variable_at M n).ty
type_in M (delayed s k) = (signal_at M s).ty
type_in M (unary kind e) = type_by M (operator kind) (type_in M e) mistyped
type_in M (binary kind a b) = type_by M (operator kind) (type_in M a) (type_in M b)

-- The value of an expression before which m nodes stand, or its fault with the number of the node that failed. Boolean `and` and `or` skip
-- b when a decides, as document 01 has it.
unfoldable pub value_in : Model → Environment → ℕ → Expression → Value
value_in M env m (number n) = Ok n
value_in M env m (logic n) = Ok n
value_in M env m (signal n) = Ok (env.signal n Now)
value_in M env m (variable n) = Ok (env.variable n)
value_in M env m (delayed s k) = Ok (env.signal s (delayed_by k))
value_in M env m (unary kind e) =
    value_by env (root_of m (unary kind e)) (operator kind) (type_in M (unary kind e)) (value_in M env m e) (Ok 0)
value_in M env m (binary kind a b) =
    value_by env (root_of m (binary kind a b)) (operator kind) (type_in M (binary kind a b)) (value_in M env m a) (value_in M env (m + nodes_in a) b)
