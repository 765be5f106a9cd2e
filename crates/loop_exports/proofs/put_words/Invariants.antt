-- The loop writes the chain's words, and behind them come two. Assumes nothing.
use Rattle.loop_exports.proofs.WordLaws.{Written}
use Rattle.loop_exports.proofs.put_words.Given as goal

abbrev pub invariant-loop-i : goal.invariant-loop-i
invariant-loop-i l = Written l.initial.out l.entries l.out l.i
