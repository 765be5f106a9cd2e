-- `after_delta` is `after_delta`: one case after the other. Assumes nothing.
use mathlib.Core.Path.{sym, ◌∙◌}
use Rattle.steps.proofs.DeltaProcesses.{not_waiting, at_deadline, after_change, no_change}
use Rattle.steps.proofs.delta.after_delta.Goals as goal

pub returns-then-q-ne-WAITING : goal.returns-then-q-ne-WAITING
returns-then-q-ne-WAITING c = not_waiting _ _ _ _ _ c.args.q c.if-q-ne-WAITING.true

pub returns-then-q-time : goal.returns-then-q-time
returns-then-q-time c = at_deadline _ _ _ _ _ c.args.q c.requires.time_le_last_time c.if-q-ne-WAITING.false _ c.if-q-time.true c.woken.ensures

pub returns-then-meet : goal.returns-then-meet
returns-then-meet c = after_change _ _ _ _ _ c.args.q c.requires.time_le_last_time c.if-q-ne-WAITING.false c.if-q-time.false _ c.statement-w.ensures _ (sym c.meet.ensures ∙ c.if-meet.true) c.woken_if.ensures

pub returns : goal.returns
returns c = no_change _ _ _ _ _ c.args.q c.requires.time_le_last_time c.if-q-ne-WAITING.false c.if-q-time.false _ c.statement-w.ensures (sym c.meet.ensures ∙ c.if-meet.false)
