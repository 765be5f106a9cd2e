use borrow.Author.Tests.{eq-eqb, ne_eqb}
use Rattle.rules.specs.Steps.{undriven}
use Rattle.steps.proofs.resolve.undriven.Goals as goal

pub returns-then-d-eq-BUS : goal.returns-then-d-eq-BUS
unfolding undriven
returns-then-d-eq-BUS c = rw (← c.signal-d.ensures, eq-eqb _ _ c.if-d-eq-BUS.true)

pub returns-else-d-eq-BUS : goal.returns-else-d-eq-BUS
unfolding undriven
returns-else-d-eq-BUS c = rw (← c.signal-d.ensures, ne_eqb _ _ c.if-d-eq-BUS.false)
