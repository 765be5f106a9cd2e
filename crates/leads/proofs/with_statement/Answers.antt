-- `with_statement`, of the statement as it was read: an assignment names a signal and a node. Assumes nothing.
use Rattle.leads.proofs.RelationLaws.{assignment_seen, wait_seen, nothing_seen, signal_below, delay_there}
use Rattle.leads.proofs.with_statement.Goals as goal

pub constant_above_0-later-requires : goal.constant_above_0-later-requires
constant_above_0-later-requires c = record { n_in_bounds = delay_there _ c.requires.facts _ c.requires.n_in_bounds _ c.statement-s.ensures c.if-s.true }

pub with-requires : goal.with-requires
with-requires c = signal_below _ c.requires.facts _ c.requires.n_in_bounds _ c.statement-s.ensures c.if-s.true

pub returns-then-s : goal.returns-then-s
returns-then-s c = assignment_seen _ _ _ c.statement-s.ensures _ c.if-s.true _ _ c.constant_above_0-later.ensures c.with.ensures

pub returns-then-s-eq5 : goal.returns-then-s-eq5
returns-then-s-eq5 c = wait_seen _ _ _ c.statement-s.ensures _ c.if-s.false c.if-s-eq5.true _ c.join.ensures

pub returns : goal.returns
returns c = nothing_seen _ _ _ c.statement-s.ensures _ c.if-s.false c.if-s-eq5.false
