-- `wait_later`, of the statement as it was read. Assumes nothing.
use Rattle.leads.proofs.RelationLaws.{no_wait, no_timeout, timeout_later, timeout_there}
use Rattle.leads.proofs.wait_later.Goals as goal

pub returns-then-s-ne5 : goal.returns-then-s-ne5
returns-then-s-ne5 c = no_wait _ _ _ c.statement-s.ensures c.if-s-ne5.true

pub returns-then-s-eq-ABSENT : goal.returns-then-s-eq-ABSENT
returns-then-s-eq-ABSENT c = no_timeout _ _ _ c.statement-s.ensures c.if-s-ne5.false c.if-s-eq-ABSENT.true

pub constant_above_0-requires : goal.constant_above_0-requires
constant_above_0-requires c = record { n_in_bounds = timeout_there _ c.requires.facts _ c.requires.n_in_bounds _ c.statement-s.ensures c.if-s-ne5.false c.if-s-eq-ABSENT.false }

pub returns : goal.returns
returns c = timeout_later _ _ _ c.statement-s.ensures c.if-s-ne5.false c.if-s-eq-ABSENT.false _ c.constant_above_0.ensures
