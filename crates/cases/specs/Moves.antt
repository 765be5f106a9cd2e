-- Delta step and time step as two orders (document 02, item 9): the bench's list of before moved over, the law of moving over used on it,
-- and what refuses the two orders.
use Rattle.std.specs.Prelude.{◌≡◌, refl, false, [], ◌∷◌}
use Rattle.base.specs.Below.{All}
use Rattle.rules.specs.Configuration.{Configuration, first}
use Rattle.rules.specs.Orders.{refused}
use Rattle.session.specs.Demand3.{Bytes}
use Rattle.session.specs.Lists.{Order, order, orders_of, order_bytes, performed, played, after}
use Rattle.moving.specs.Before.{played_before}
use Rattle.moving.specs.Moving.{moved_over, moved_bytes, is_new, MovesOver}
use Rattle.cases.specs.Claims.{◌by◌}
use Rattle.cases.specs.Forms.{settle_order, read_order, delta_step_order, time_step_order, as_bytes}
use Rattle.cases.specs.Inverter.{inverter, inverter_order_bytes}

-- order 2, its unused bytes zero
abbrev pub advance_order : Order
advance_order = order 2 0 0

-- "Orders: settle 10, advance three times, settle 10, advance twice, read 1."
abbrev pub bench_before : Bytes
bench_before =
    as_bytes
    (order_bytes
    (settle_order 10 ∷ advance_order ∷ advance_order ∷ advance_order ∷ settle_order 10 ∷ advance_order ∷ advance_order ∷ read_order 1 ∷ []))
    refl

-- no process is ready: nothing is due now, or something is
abbrev pub nothing_due : Configuration
nothing_due = after inverter (settle_order 10 ∷ delta_step_order ∷ [])

abbrev pub something_due : Configuration
something_due = after inverter (settle_order 10 ∷ [])

pub record InverterMoved : Type 0 where
  pub law : MovesOver
  -- "the bench case has 6, 7, 6 and then 6, 7"
  pub moved : moved_bytes inverter bench_before.bytes ≡ inverter_order_bytes
  pub old : All (λ o. is_new o ≡ false) (orders_of bench_before.bytes)
  pub same : played inverter (orders_of (moved_bytes inverter bench_before.bytes)) (first inverter) ≡ played_before inverter (orders_of bench_before.bytes) (first inverter)
      by law inverter bench_before old
  -- "(6 if both do)": refused with 14 by both, and with 11 where an unused byte is set
  pub both : moved_over inverter (advance_order ∷ order 2 1 0 ∷ order 2 0 7 ∷ []) (first inverter) ≡ delta_step_order ∷ order 6 1 0 ∷ order 6 0 7 ∷ []
  -- the other orders stay
  pub others : moved_over inverter (order 6 0 0 ∷ order 7 0 0 ∷ order 9 2 2 ∷ settle_order 10 ∷ advance_order ∷ []) (first inverter)
      ≡ order 6 0 0 ∷ order 7 0 0 ∷ order 9 2 2 ∷ settle_order 10 ∷ delta_step_order ∷ []
  -- the refusals
  pub no_delta : performed inverter delta_step_order nothing_due ≡ refused 22 nothing_due
  pub no_time : performed inverter time_step_order something_due ≡ refused 23 something_due
  pub withdrawn : performed inverter advance_order something_due ≡ refused 11 something_due
