-- The bench's list of before, moved over by computation; the law says the rest. Assumes nothing.
use mathlib.Core.Path.{◌≡◌, refl}
use mathlib.Core.Bool.{false}
use mathlib.Core.List.{[], ◌∷◌}
use Rattle.base.specs.Below.{All, all_below}
use Rattle.rules.specs.Configuration.{first}
use Rattle.rules.specs.Orders.{refused}
use Rattle.session.specs.Lists.{order, orders_of, performed}
use Rattle.moving.specs.Before.{advanced, performed_before}
use Rattle.moving.specs.Moving.{same_answer, moved_order, moved_over, moved_bytes, is_new}
use Rattle.moving.proofs.ListMoves.{moves_over}
use Rattle.cases.specs.Forms.{settle_order, delta_step_order, time_step_order}
use Rattle.cases.specs.Inverter.{inverter, inverter_order_bytes}
use Rattle.cases.specs.Moves.{advance_order, bench_before, nothing_due, something_due, InverterMoved}
use Rattle.cases.proofs.Rules.{the_orders}

moved : moved_bytes inverter bench_before.bytes ≡ inverter_order_bytes
unfolding the_orders inverter all_below advanced performed_before same_answer moved_order moved_over moved_bytes
moved = refl

old : All (λ o. is_new o ≡ false) (orders_of bench_before.bytes)
unfolding the_orders
old = (refl, (refl, (refl, (refl, (refl, (refl, (refl, (refl, tt))))))))

both : moved_over inverter (advance_order ∷ order 2 1 0 ∷ order 2 0 7 ∷ []) (first inverter) ≡ delta_step_order ∷ order 6 1 0 ∷ order 6 0 7 ∷ []
unfolding the_orders inverter all_below advanced performed_before same_answer moved_order moved_over
both = refl

others : moved_over inverter (order 6 0 0 ∷ order 7 0 0 ∷ order 9 2 2 ∷ settle_order 10 ∷ advance_order ∷ []) (first inverter)
    ≡ order 6 0 0 ∷ order 7 0 0 ∷ order 9 2 2 ∷ settle_order 10 ∷ delta_step_order ∷ []
unfolding the_orders inverter all_below advanced performed_before same_answer moved_order moved_over
others = refl

no_delta : performed inverter delta_step_order nothing_due ≡ refused 22 nothing_due
unfolding the_orders inverter
no_delta = refl

no_time : performed inverter time_step_order something_due ≡ refused 23 something_due
unfolding the_orders inverter
no_time = refl

withdrawn : performed inverter advance_order something_due ≡ refused 11 something_due
unfolding the_orders inverter
withdrawn = refl

pub inverter_moved : InverterMoved
inverter_moved =
    record {
      law = moves_over;
      moved = moved;
      old = old;
      same = moves_over inverter bench_before old;
      both = both;
      others = others;
      no_delta = no_delta;
      no_time = no_time;
      withdrawn = withdrawn;
    }
