use mathlib.Core.Path.{refl, sym, ◌∙◌}
use native.Mathlib.Nat.{zero-add}
use native.Mathlib.Omega.{arith}
use lib.ListN.{length-set}
use Rattle.base.proofs.Below.{write_none, write_next}
use Rattle.exports.specs.Dump.{word_of}
use Rattle.exports.proofs.Words.{all_written}
use Rattle.exports.proofs.dump.dump.Goals as goal

pub loop-i-init : goal.loop-i-init
loop-i-init c = (omega arith, refl, write_none (word_of _) _ 0)

pub loop-i-preserved : goal.loop-i-preserved
loop-i-preserved c = (omega arith, length-set c.loop-i.words c.loop-i.i c.word.result ∙ c.loop-i.invariant.1, rw c.word.ensures (write_next (word_of _) _ _ 0 _ _ (sym (zero-add _)) (omega arith) c.loop-i.invariant.2))

pub returns : goal.returns
returns c =
    let inv = c.loop-i.invariant in
    all_written (word_of _) _ _ _ inv.0 c.loop-i-test.false inv.2
