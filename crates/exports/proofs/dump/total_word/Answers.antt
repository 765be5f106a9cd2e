-- The arm that was taken names the total. Assumes nothing.
use mathlib.Core.Path.{sym, ◌∙◌}
use borrow.Author.Rules.{rules}
use Rattle.cycle.specs.View.{view_of}
use Rattle.cycle.proofs.ViewLaws.{signals_long, variables_long, drivers_long, processes_long}
use Rattle.exports.specs.Dump.{total_word}
use Rattle.exports.proofs.Words.{last_total}
use Rattle.exports.proofs.dump.total_word.Goals as goal

pub returns-in-0 : goal.returns-in-0
unfolding total_word view_of
returns-in-0 c = rw c.in-0.is

pub returns-in-1 : goal.returns-in-1
unfolding total_word view_of
returns-in-1 c = rw c.in-1.is

pub returns-in-2 : goal.returns-in-2
unfolding total_word
returns-in-2 c = rw c.in-2.is (sym (signals_long _))

pub returns-in-3 : goal.returns-in-3
unfolding total_word
returns-in-3 c = rw c.in-3.is (sym (variables_long _))

pub returns-in-4 : goal.returns-in-4
unfolding total_word
returns-in-4 c = rw c.in-4.is (sym (drivers_long _))

pub returns-in_default : goal.returns-in_default
returns-in_default c = sym (processes_long _) ∙ last_total _ _ (search rules)
