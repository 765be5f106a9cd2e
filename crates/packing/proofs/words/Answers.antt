use mathlib.Core.Path.{sym}
use Prim.Native.Nat.{zero-le}
use borrow.Author.Rules.{rules}
use Rattle.base.proofs.Below.{sum_none}
use Rattle.base.proofs.Turns.{sum_turn}
use Rattle.packing.proofs.words.Goals as goal

pub loop-i-init : goal.loop-i-init
loop-i-init c = (zero-le, sym (sum_none _))

pub loop-i-preserved : goal.loop-i-preserved
loop-i-preserved c = (search rules, sum_turn _ _ _ _ c.loop-i.invariant.1 c.word-sum.ensures.value)
