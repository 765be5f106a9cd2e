use native.Mathlib.Omega.{arith}
use Rattle.trees.proofs.TreeLaws.{recur, lower_one, lower_first, lower_second, size_most, size_none, size_one, size_two}
use Rattle.trees.proofs.trees.+tree_size.Goals as goal

-- the operand of one
pub tree_size-requires : goal.tree_size-requires
tree_size-requires t c = recur c.decreases c.requires (lower_one c.requires c.node-d.ensures c.operands_of.ensures c.in-1.is)

pub overflow_add-result : goal.overflow_add-result
overflow_add-result t c =
    omega (arith, c.tree_size.ensures, size_most c.requires (lower_one c.requires c.node-d.ensures c.operands_of.ensures c.in-1.is))

-- the first of two
pub tree_size-requires-in_default : goal.tree_size-requires-in_default
tree_size-requires-in_default t c =
    recur c.decreases c.requires (lower_first c.requires c.node-d.ensures c.operands_of.ensures (λ e. omega arith) (λ e. omega arith))

pub overflow_add-result-in_default : goal.overflow_add-result-in_default
overflow_add-result-in_default t c =
    let first = lower_first c.requires c.node-d.ensures c.operands_of.ensures (λ e. omega arith) (λ e. omega arith) in
    omega (arith, c.tree_size-in_default.ensures, size_most c.requires first)

-- the second
pub tree_size-requires-in_default-2 : goal.tree_size-requires-in_default-2
tree_size-requires-in_default-2 t c =
    recur c.decreases c.requires (lower_second c.requires c.node-d.ensures c.operands_of.ensures (λ e. omega arith) (λ e. omega arith))

pub overflow_add-result-in_default-2 : goal.overflow_add-result-in_default-2
overflow_add-result-in_default-2 t c =
    let first = lower_first c.requires c.node-d.ensures c.operands_of.ensures (λ e. omega arith) (λ e. omega arith) in
    let second = lower_second c.requires c.node-d.ensures c.operands_of.ensures (λ e. omega arith) (λ e. omega arith) in
    omega (arith, c.tree_size-in_default.ensures, c.tree_size-in_default-2.ensures, size_most c.requires first, size_most c.requires second)

pub returns-in-0 : goal.returns-in-0
returns-in-0 t c = size_none c.requires c.node-d.ensures c.operands_of.ensures c.in-0.is

pub returns-in-1 : goal.returns-in-1
returns-in-1 t c = size_one c.requires c.node-d.ensures c.operands_of.ensures c.in-1.is c.tree_size.ensures

pub returns-in_default : goal.returns-in_default
returns-in_default t c =
    size_two c.requires c.node-d.ensures c.operands_of.ensures (λ e. omega arith) (λ e. omega arith) c.tree_size-in_default.ensures c.tree_size-in_default-2.ensures
