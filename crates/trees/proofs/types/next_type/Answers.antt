-- `trees::types::next_type` meets its contract: the entries below n are what `type_of` knows of the operands. Assumes nothing.
use mathlib.Core.Bool.{true}
use mathlib.Core.Path.{◌≡◌}
use native.Mathlib.Nat.{le_of_lt, lt_of_lt_of_le}
use Rattle.blocks.specs.Lent.{model_in}
use Rattle.blocks.proofs.Lookup.{nodes_most}
use Rattle.fields.specs.Fields.{node_ok}
use Rattle.fields.proofs.NodeFields.{node_ok_lem}
use Rattle.trees.proofs.NodeTypes.{type_read, type_small}
use Rattle.trees.proofs.types.next_type.Goals as goal

pub operand_type-p-requires : goal.operand_type-p-requires
operand_type-p-requires c = le_of_lt (lt_of_lt_of_le c.requires.n_in_bounds (nodes_most (model_in c.args.records.now) c.args.records.now.starts.totals))

pub operand_type-q-requires : goal.operand_type-q-requires
operand_type-q-requires c = le_of_lt (lt_of_lt_of_le c.requires.n_in_bounds (nodes_most (model_in c.args.records.now) c.args.records.now.starts.totals))

-- the node that was read passes rule 5
pub type_by-requires : goal.type_by-requires
type_by-requires c = rw c.node-d.ensures (node_ok_lem (model_in c.args.records.now) c.requires.m_value c.args.n c.requires.n_in_bounds)

pub returns-clause-value : goal.returns-clause-value
returns-clause-value c =
    rw c.type_by.ensures
    (type_read (model_in c.args.records.now) c.args.n c.node-d.result c.node-d.ensures c.args.records.now.index.now c.requires.types_below _ _ c.operand_type-p.ensures c.operand_type-q.ensures)

pub returns-clause-upper_bound : goal.returns-clause-upper_bound
returns-clause-upper_bound c =
    let ok : node_ok (model_in c.args.records.now) c.node-d.result ≡ true = rw c.node-d.ensures (node_ok_lem (model_in c.args.records.now) c.requires.m_value c.args.n c.requires.n_in_bounds) in
    rw c.type_by.ensures (type_small (model_in c.args.records.now) c.node-d.result _ _ c.requires.m_value ok)
