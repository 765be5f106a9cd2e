use Rattle.base.proofs.Turns.{turn_room, turn_fours}
use Rattle.leads.proofs.SetsMade.{none_made, one_made, rows_made}
use Rattle.leads.proofs.rows.Goals as goal

pub loop-p-init : goal.loop-p-init
loop-p-init c = none_made _ c.requires.facts

pub sides_of-sides-requires : goal.sides_of-sides-requires
sides_of-sides-requires c = record { facts = c.requires.facts; p_in_bounds = rw c.args.records.now.totals_of.processes at c.loop-p-test.true }

pub offset_bounds-assigns-p : goal.offset_bounds-assigns-p
offset_bounds-assigns-p c = turn_fours 16 _ _ _ c.args.records.now.totals_of.processes c.requires.facts.totals.processes c.loop-p-test.true tt

pub bounds-assigns-p : goal.bounds-assigns-p
bounds-assigns-p c = turn_room 16 _ _ _ c.args.records.now.totals_of.processes c.requires.facts.totals.processes c.loop-p-test.true

pub offset_bounds-waits-p : goal.offset_bounds-waits-p
offset_bounds-waits-p c = turn_fours 16 _ _ _ c.args.records.now.totals_of.processes c.requires.facts.totals.processes c.loop-p-test.true tt

pub bounds-waits-p : goal.bounds-waits-p
bounds-waits-p c = turn_room 16 _ _ _ c.args.records.now.totals_of.processes c.requires.facts.totals.processes c.loop-p-test.true

pub loop-p-preserved : goal.loop-p-preserved
loop-p-preserved c = one_made _ c.requires.facts _ _ _ c.loop-p.invariant _ (rw c.args.records.now.totals_of.processes at c.loop-p-test.true) c.sides_of-sides.ensures

pub relation-requires : goal.relation-requires
relation-requires c = rw c.args.records.now.totals_of.processes c.requires.facts.totals.processes

pub returns : goal.returns
returns c = rows_made _ c.requires.facts _ _ _ _ _ c.loop-p.invariant c.loop-p-test.false c.args.records.now.totals_of.processes c.relation.ensures
