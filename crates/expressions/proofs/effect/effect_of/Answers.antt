-- `effect_of` gives the effect of the specification: the `match` says which line of `effect_by` holds. Assumes nothing.
use mathlib.Core.Path.{◌∙◌}
use borrow.Author.Tests.{eq-eqb, ne_eqb}
use borrow.Author.Rules.{rules}
use Rattle.rules.specs.Statements.{effect_by}
use Rattle.expressions.proofs.Statements.{assigned, no_statement}
use Rattle.expressions.proofs.effect.effect_of.Goals as goal

pub returns-then-s-eq-ABSENT : goal.returns-then-s-eq-ABSENT
unfolding effect_by
returns-then-s-eq-ABSENT c = rw (← c.statement-s.ensures, c.in-5.is, eq-eqb _ _ c.if-s-eq-ABSENT.true)

pub returns-in-0 : goal.returns-in-0
unfolding effect_by
returns-in-0 c = rw (← c.statement-s.ensures, c.in-0.is)

pub returns-in-1 : goal.returns-in-1
unfolding effect_by
returns-in-1 c = rw (← c.statement-s.ensures, c.in-1.is, ← c.eval.ensures) c.store.ensures

pub returns-in-2 : goal.returns-in-2
returns-in-2 c =
    let driver = rw (← c.statement-s.ensures) at c.assignment_driver.ensures in
    rw (← c.statement-s.ensures)
    (c.assign.ensures ∙ rw (c.eval-v.ensures, c.eval-in-2.ensures, driver, c.mechanism_of.ensures) (assigned _ _ _ _ c.in-2.is))

pub returns-in-3 : goal.returns-in-3
unfolding effect_by
returns-in-3 c = rw (← c.statement-s.ensures, c.in-3.is, ← c.eval-in-3.ensures) c.branch-s.ensures

pub returns-in-4 : goal.returns-in-4
unfolding effect_by
returns-in-4 c = rw (← c.statement-s.ensures, c.in-4.is)

pub returns-else-s-eq-ABSENT : goal.returns-else-s-eq-ABSENT
unfolding effect_by
returns-else-s-eq-ABSENT c = rw (← c.statement-s.ensures, c.in-5.is, ne_eqb _ _ c.if-s-eq-ABSENT.false, ← c.eval-in-5.ensures) c.wait_for.ensures

pub returns-in-6 : goal.returns-in-6
unfolding effect_by
returns-in-6 c =
    let driver = rw (← c.statement-s.ensures) at c.assignment_driver-in-6.ensures in
    rw (← c.statement-s.ensures, c.in-6.is, ← c.eval-in-6.ensures, ← driver) c.schedule.ensures

pub returns-in_default : goal.returns-in_default
unfolding effect_by
returns-in_default c = no_statement (c.args.program.now.runs, c.requires) c.statement-s.ensures (search rules)
