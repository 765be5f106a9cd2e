-- `resolve`: the loop's steps. Assumes nothing.
use mathlib.Core.Path.{refl, sym, ◌∙◌}
use Prim.Native.Nat.{◌≤◌}
use lib.ListN.{length-set}
use borrow.Author.Rules.{rules}
use Rattle.steps.proofs.DeltaSignals.{resolved_none, resolved_same, resolved_more, resolved_all}
use Rattle.steps.proofs.delta.resolve.Goals as goal
use Rattle.steps.proofs.delta.resolve.Goals.{then-has, else-has}

pub loop-s-init : goal.loop-s-init
loop-s-init c = (c.requires.signals_len, resolved_none _ _ _ _ _)

pub loop-s-preserved : goal.loop-s-preserved
loop-s-preserved c =
    let few : c.args.nsignals ≤ 32 = rw c.requires.nsignals_value c.args.program.now.runs.facts.totals.signals in
    elim c.if-has.branch [
      | then-has w ↦
          rw (w.signals-is, w.changed-is)
          (length-set _ _ _ ∙ c.loop-s.invariant.0, resolved_more _ _ _ _ _ _ _ _ c.loop-s.invariant.1 _ _ _ (sym c.has.ensures ∙ w.if-has.true) (search rules) refl (rw w.undriven-other.ensures at w.resolved-v.ensures) w.with-changed.ensures)
      | else-has w ↦ rw (w.signals-is, w.changed-is) (c.loop-s.invariant.0, resolved_same _ _ _ _ _ _ _ _ c.loop-s.invariant.1 (sym c.has.ensures ∙ w.if-has.false))
    ]

pub returns : goal.returns
returns c = resolved_all _ _ _ _ _ _ _ _ _ c.loop-s.auto.s-end c.loop-s-test.false c.loop-s.invariant.1
