-- Each test decides a line of the definition. Assumes nothing.
use borrow.Author.Rules.{rules}
use Rattle.exports.proofs.Words.{process_none, place_word, standing_word, fault_word, node_word, no_deadline, deadline_set, deadline_word}
use Rattle.exports.proofs.dump.process_word.Goals as goal

pub returns-then-n-p : goal.returns-then-n-p
returns-then-n-p c = search (rules, process_none)

pub returns-in-0 : goal.returns-in-0
returns-in-0 c = search (rules, place_word)

pub returns-in-1 : goal.returns-in-1
returns-in-1 c = search (rules, standing_word)

pub returns-in-2 : goal.returns-in-2
returns-in-2 c = search (rules, fault_word)

pub returns-in-3 : goal.returns-in-3
returns-in-3 c = search (rules, node_word)

pub returns-then-t : goal.returns-then-t
returns-then-t c = search (rules, no_deadline)

pub returns-then-j-eq4 : goal.returns-then-j-eq4
returns-then-j-eq4 c = search (rules, deadline_set)

pub returns-else-j-eq4 : goal.returns-else-j-eq4
returns-else-j-eq4 c = search (rules, deadline_word)
