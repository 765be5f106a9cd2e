-- `modulo`: its test is that of the definition. Assumes nothing.
use Rattle.integers.proofs.Machine.{raised_fits, kept, raised}
use Rattle.integers.proofs.modulo.Goals as goal

pub overflow_add-result : goal.overflow_add-result
overflow_add-result c = raised_fits c.args.a c.args.b c.requires c.rem-r.ensures

pub returns-then-r-b : goal.returns-then-r-b
returns-then-r-b c = kept c.args.a c.args.b c.requires c.rem-r.ensures c.if-r-b.true

pub returns-else-r-b : goal.returns-else-r-b
returns-else-r-b c = raised c.args.a c.args.b c.requires c.rem-r.ensures c.if-r-b.false
