-- The edge detector and the laws of the earlier values. Assumes nothing.
use mathlib.Core.Path.{◌≡◌, refl}
use mathlib.Core.List.{[]}
use native.Mathlib.Omega.{arith}
use Rattle.base.proofs.Below.{◌and◌, among}
use Rattle.values.specs.Bench.{holds, Holds}
use Rattle.blocks.specs.Records.{node_at}
use Rattle.rules.specs.Configuration.{first}
use Rattle.rules.specs.Delays.{NoDelayOfZero}
use Rattle.session.proofs.DelayLaws.{delay_laws}
use Rattle.cases.specs.Inverter.{inverter, inverter_orders}
use Rattle.cases.specs.Delays.{detector, clashing, delay_rows, DelaysPlayed, otherwise, DelaysUsed}
use Rattle.cases.proofs.Rules.{the_orders, the_checks}

pub delays_hold : Holds delay_rows
unfolding delay_rows detector clashing holds the_orders
delays_hold = refl

pub delays_played : DelaysPlayed
unfolding delay_rows detector clashing the_checks
delays_played =
    record {
      said = refl;
      detector_accepted = record { totals = refl; fields = refl; trees = refl; types = refl; owners = refl; nulls = refl; symmetric = refl; associative = refl };
      clashing_accepted = record { totals = refl; fields = refl; trees = refl; types = refl; owners = refl; nulls = refl; symmetric = refl; associative = refl };
    }

-- none of the inverter's five nodes is of kind 5
no_delay : NoDelayOfZero inverter
unfolding inverter
no_delay n h =
    among (λ n. (node_at inverter n).kind ≡ 5 → (node_at inverter n).k ≡ 0 → ⊥) 0 5 n
    ((λ k z. omega arith) and (λ k z. omega arith) and (λ k z. omega arith) and (λ k z. omega arith) and (λ k z. omega arith) and tt)
    (omega arith) h

pub delays_used : DelaysUsed
delays_used =
    record {
      laws = delay_laws;
      free = no_delay;
      differ = refl;
      value = delay_laws.values inverter no_delay [] otherwise.signals otherwise.earlier 1;
      delta = delay_laws.deltas inverter (first inverter) otherwise refl;
      same = delay_laws.orders inverter no_delay inverter_orders (first inverter) otherwise refl;
    }
