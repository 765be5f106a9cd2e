use Rattle.std.proofs.Common.{arith}
use Rattle.simple.proofs.SignalLaws.{collects_first, with_signal, signal_small, signal_read, found_signals}
use Rattle.simple.proofs.waits.signals.Goals as goal

pub loop-n-init : goal.loop-n-init
loop-n-init c = (omega arith, c.requires, collects_first _ _)

pub returns-in_default-word : goal.returns-in_default-word
returns-in_default-word c =
    let v = c.loop-n.invariant in
    let t = c.token-found.ensures in
    found_signals v.2 t _ c.in-Signal.is (with_signal _ _ (signal_small v.2 t _ c.in-Signal.is)) c.in_default-word.ensures v.0

pub loop-n-preserved : goal.loop-n-preserved
loop-n-preserved c =
    let v = c.loop-n.invariant in
    let t = c.token-found.ensures in
    let w = c.in-Some.ensures in
    (omega (arith, v.0, t.within, w.within), w.within.1, signal_read v.2 t _ c.in-Signal.is (with_signal _ _ (signal_small v.2 t _ c.in-Signal.is)) w)
