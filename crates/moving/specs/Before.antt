-- The orders of before: document 02, item 9, withdrew order 2, an advance, and brought orders 6 and 7.
use Rattle.std.specs.Prelude.{◌&&◌, List, eqb}
use Rattle.base.specs.Cases.{◌∣◌, ◌⇒◌, ◌is◌⇒◌}
use Rattle.blocks.specs.Records.{Model}
use Rattle.rules.specs.Configuration.{Configuration}
use Rattle.rules.specs.Orders.{Outcome, refused, due_now, due_times, earliest, advancing, delta_order, time_order}
use Rattle.session.specs.Lists.{Order, Played, performed, played_by}

-- document 01, "Advance": 14 and 15; a delta step where something is due now, or 16; else a time step, or 17 or 18
unfoldable pub advanced : Model → Configuration → Outcome
advanced M c = advancing M c (due_now M c ⇒ delta_order M c ∣ time_order (earliest (due_times M c)) c)

-- order 2 was an advance and used no byte but its kind; 6 and 7 were unknown; all others were what they are now
unfoldable pub performed_before : Model → Order → Configuration → Outcome
performed_before M o c =
    o.kind is 2 ⇒ (eqb o.argument 0 && eqb o.count 0 ⇒ advanced M c ∣ refused 11 c)
    ∣ o.kind is 6 ⇒ refused 11 c
    ∣ o.kind is 7 ⇒ refused 11 c
    ∣ performed M o c

-- a list of orders, as it was played
abbrev pub played_before : Model → List Order → Configuration → Played
played_before M = played_by (performed_before M)
