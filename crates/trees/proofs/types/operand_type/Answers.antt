use borrow.Author.Tests.{lt-ltb, le-ltb}
use Rattle.trees.proofs.types.operand_type.Goals as goal

pub returns-then-a-n : goal.returns-then-a-n
returns-then-a-n c = rw (lt-ltb _ _ c.if-a-n.true) c.entry.ensures

pub returns-else-a-n : goal.returns-else-a-n
returns-else-a-n c = rw (le-ltb _ _ c.if-a-n.false)
