-- A bit more, or none.
-- Assumes nothing.
use Rattle.phrases.proofs.Operands.{leaf_signal, leaf_none}
use Rattle.phrases.proofs.with_leaf.Goals as goal

pub returns-then-kind : goal.returns-then-kind
returns-then-kind c = leaf_signal _ c.args.kind _ c.if-kind.true (c.requires c.if-kind.true)

pub returns-else-kind : goal.returns-else-kind
returns-else-kind c = leaf_none _ c.args.kind c.args.a c.if-kind.false
