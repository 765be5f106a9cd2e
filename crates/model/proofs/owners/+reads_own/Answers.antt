-- `model::owners::reads_own` meets its contract: the node number falls at each call. Assumes nothing.
use mathlib.Core.Path.{sym, ◌∙◌}
use native.Mathlib.Omega.{arith}
use Rattle.blocks.specs.Lent.{model_in}
use Rattle.fields.proofs.NodeFields.{node_ok_lem, names_variable}
use Rattle.trees.proofs.Operands.{measurable}
use Rattle.trees.proofs.TreeLaws.{lower_one, lower_first, lower_second}
use Rattle.model.proofs.owners.+reads_own.Goals as goal
use Rattle.model.proofs.Own.{recur, reads_variable, reads_none, reads_one, reads_two}

pub variable-requires : goal.variable-requires
variable-requires t c =
    let M = model_in c.args.records.now in
    names_variable M c.node-d.result (rw c.node-d.ensures (node_ok_lem M c.requires.fields c.args.n c.requires.n_in_bounds)) c.if-d-eq3.true

pub returns-then-d-eq3 : goal.returns-then-d-eq3
returns-then-d-eq3 t c = rw c.variable.ensures (sym (reads_variable (model_in c.args.records.now) c.args.p c.args.n c.node-d.result c.node-d.ensures c.if-d-eq3.true))

pub reads_own-requires : goal.reads_own-requires
reads_own-requires t c =
    recur c.decreases c.requires.fields c.requires.trees c.requires.n_in_bounds
    (lower_one (measurable _ c.requires.trees _ c.requires.n_in_bounds) c.node-d.ensures c.operands_of.ensures c.in-1.is)

pub reads_own-requires-in_default : goal.reads_own-requires-in_default
reads_own-requires-in_default t c =
    recur c.decreases c.requires.fields c.requires.trees c.requires.n_in_bounds
    (lower_first (measurable _ c.requires.trees _ c.requires.n_in_bounds) c.node-d.ensures c.operands_of.ensures (λ e. omega arith) (λ e. omega arith))

pub reads_own-requires-in_default-2 : goal.reads_own-requires-in_default-2
reads_own-requires-in_default-2 t c =
    recur c.decreases c.requires.fields c.requires.trees c.requires.n_in_bounds
    (lower_second (measurable _ c.requires.trees _ c.requires.n_in_bounds) c.node-d.ensures c.operands_of.ensures (λ e. omega arith) (λ e. omega arith))

pub returns-in-0 : goal.returns-in-0
returns-in-0 t c = sym (reads_none (model_in c.args.records.now) c.args.p c.args.n c.node-d.result c.node-d.ensures c.operands_of.ensures c.if-d-eq3.false c.in-0.is)

pub returns-in-1 : goal.returns-in-1
returns-in-1 t c =
    c.reads_own.ensures
    ∙ sym (reads_one (model_in c.args.records.now) c.args.p c.args.n c.node-d.result c.node-d.ensures c.operands_of.ensures c.if-d-eq3.false c.in-1.is (lower_one (measurable _ c.requires.trees _ c.requires.n_in_bounds) c.node-d.ensures c.operands_of.ensures c.in-1.is))

pub returns-in_default : goal.returns-in_default
returns-in_default t c =
    let k = c.operands_of.ensures in
    let first = lower_first (measurable _ c.requires.trees _ c.requires.n_in_bounds) c.node-d.ensures k (λ e. omega arith) (λ e. omega arith) in
    let second = lower_second (measurable _ c.requires.trees _ c.requires.n_in_bounds) c.node-d.ensures k (λ e. omega arith) (λ e. omega arith) in
    rw (c.reads_own-in_default.ensures, c.reads_own-in_default-2.ensures)
    (sym (reads_two (model_in c.args.records.now) c.args.p c.args.n c.node-d.result c.node-d.ensures k c.if-d-eq3.false (λ e. omega arith) (λ e. omega arith) first second))
