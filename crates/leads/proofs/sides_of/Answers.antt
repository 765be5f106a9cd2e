use Rattle.leads.proofs.RelationLaws.{none_seen, one_seen, all_seen, statement_there, place_fits}
use Rattle.leads.proofs.sides_of.Goals as goal

pub loop-i-init : goal.loop-i-init
loop-i-init c = none_seen _ _ _ c.process-d.ensures

pub overflow_add-d : goal.overflow_add-d
overflow_add-d c = place_fits _ c.requires.facts _ c.requires.p_in_bounds _ c.process-d.ensures _ c.loop-i-test.true

pub with_statement-sides-requires : goal.with_statement-sides-requires
with_statement-sides-requires c = record { facts = c.requires.facts; n_in_bounds = statement_there _ c.requires.facts _ c.requires.p_in_bounds _ c.process-d.ensures _ c.loop-i-test.true }

pub loop-i-preserved : goal.loop-i-preserved
loop-i-preserved c = one_seen _ _ _ c.process-d.ensures _ _ _ c.loop-i-test.true c.loop-i.invariant c.with_statement-sides.ensures

pub returns : goal.returns
returns c = all_seen _ _ _ c.process-d.ensures _ _ c.loop-i-test.false c.loop-i.invariant
