use borrow.Author.Tests.{lt-ltb, le-ltb}
use lib.Dec.{lit<}
use Rattle.values.specs.Nine.{code_of}
use Rattle.values.proofs.code.Goals as goal

pub returns-then-x-lt9 : goal.returns-then-x-lt9
unfolding code_of
returns-then-x-lt9 c = (rw (lt-ltb _ _ c.if-x-lt9.true), c.if-x-lt9.true)

pub returns-else-x-lt9 : goal.returns-else-x-lt9
unfolding code_of
returns-else-x-lt9 c = (rw (le-ltb _ _ c.if-x-lt9.false), lit< tt)
