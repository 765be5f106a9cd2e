use borrow.Author.Tests.{eq-eqb, ne_eqb}
use Rattle.blocks.specs.Lent.{model_in}
use Rattle.fields.proofs.StatementFields.{present}
use Rattle.model.proofs.owners.own_or_absent.Goals as goal

pub reads_own-requires-clause-n_in_bounds : goal.reads_own-requires-clause-n_in_bounds
reads_own-requires-clause-n_in_bounds c = present (model_in c.args.records.now) _ c.requires.n_value c.if-n-eq-ABSENT.false

pub returns-then-n-eq-ABSENT : goal.returns-then-n-eq-ABSENT
returns-then-n-eq-ABSENT c = rw (eq-eqb _ _ c.if-n-eq-ABSENT.true)

pub returns-else-n-eq-ABSENT : goal.returns-else-n-eq-ABSENT
returns-else-n-eq-ABSENT c = rw (ne_eqb _ _ c.if-n-eq-ABSENT.false) c.reads_own.ensures
