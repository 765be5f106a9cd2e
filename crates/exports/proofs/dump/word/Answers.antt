-- Each section has its words. Assumes nothing.
use mathlib.Core.Path.{sym, ◌∙◌}
use borrow.Author.Rules.{rules}
use Rattle.exports.proofs.Words.{in_totals, in_signals, in_variables, in_drivers, in_processes, in_earlier, past_all}
use Rattle.exports.proofs.dump.word.Goals as goal

pub returns-then-i-lt6 : goal.returns-then-i-lt6
returns-then-i-lt6 c = c.total_word.ensures ∙ sym (search (rules, in_totals))

pub returns-then-i-lt1030 : goal.returns-then-i-lt1030
returns-then-i-lt1030 c = c.signal_word.ensures ∙ sym (search (rules, in_signals))

pub returns-then-i-lt1094 : goal.returns-then-i-lt1094
returns-then-i-lt1094 c = c.variable_word.ensures ∙ sym (search (rules, in_variables))

pub returns-then-i-lt2246 : goal.returns-then-i-lt2246
returns-then-i-lt2246 c = c.driver_word.ensures ∙ sym (search (rules, in_drivers))

pub returns-then-i-lt2342 : goal.returns-then-i-lt2342
returns-then-i-lt2342 c = c.process_word.ensures ∙ sym (search (rules, in_processes))

pub returns-then-i-lt2374 : goal.returns-then-i-lt2374
returns-then-i-lt2374 c = c.earlier_word.ensures ∙ sym (search (rules, in_earlier))

pub returns : goal.returns
returns c = sym (search (rules, past_all))
