-- Each test decides a line of the definition. Assumes nothing.
use mathlib.Core.Path.{◌∙◌}
use Prim.Native.Nat.{◌-◌}
use native.Mathlib.Omega.{arith}
use lib.ListN.{get_or}
use mir.Syntax.{w32}
use mir.Val.{Fits}
use borrow.Author.Rules.{rules}
use Rattle.waveforms.specs.Pending.{driven_of}
use Rattle.exports.specs.Dump.{driver_word}
use Rattle.exports.proofs.Words.{count_word, time_word, time_none, value_word, value_none}
use Rattle.exports.proofs.dump.waveform_word.Goals as goal

pub returns-then-j-eq0 : goal.returns-then-j-eq0
unfolding driver_word
returns-then-j-eq0 c = rw c.if-j-eq0.true c.driven_word.ensures

pub returns-then-j-eq1 : goal.returns-then-j-eq1
returns-then-j-eq1 c = search (rules, count_word)

pub overflow_add-result : goal.overflow_add-result
overflow_add-result c =
    let small : Fits w32 (get_or c.args.d.times (c.args.j - 2) 0) = search rules in
    omega (arith, small.fits, c.requires.time_le_last_time)

pub returns-then-k-n : goal.returns-then-k-n
returns-then-k-n c = search (rules, time_word)

pub returns-then-j-lt10 : goal.returns-then-j-lt10
returns-then-j-lt10 c = search (rules, time_none)

pub returns-then-k-n-2 : goal.returns-then-k-n-2
returns-then-k-n-2 c = c.driven_word-then-k-n-2.ensures ∙ value_word c.args.d (driven_of c.args.current) c.args.time c.args.j (search rules) (search rules) (search rules) (search rules)

pub returns : goal.returns
returns c = search (rules, value_none)
