-- The chains and the delta steps of the small models by computation, and the laws of the check used on them. Assumes nothing.
use mathlib.Core.Path.{◌≡◌, refl, ◌∙◌}
use mathlib.Core.Bool.{true}
use mathlib.Core.List.{[]}
use Prim.Native.Nat.{ℕ}
use Rattle.base.specs.Below.{all_below, any_below}
use Rattle.base.specs.Course.{first_with}
use Rattle.sets.specs.Sets.{in_set}
use Rattle.loops.specs.Chains.{NoChain}
use Rattle.loops.specs.Search.{walks, next_on, chain_from, round_of, lowest_on, chain_of}
use Rattle.loops.proofs.Asked.{asked}
use Rattle.model.specs.Rules.{Accepted}
use Rattle.model.proofs.Facts.{facts}
use Rattle.leads.specs.Leads.{some_of, constant_above0, without_delay, waits_on, leads_to, wait_later, waits_later}
use Rattle.bounded.specs.Bounded.{steps_at, delta_steps}
use Rattle.bounded.proofs.Lists.{few_of}
use Rattle.loop_check.specs.Check.{loop_of, check_of}
use Rattle.loop_check.proofs.CheckLaws.{loop_laws, check_accepted}
use Rattle.cases.specs.Inverter.{inverter, inverter_bytes}
use Rattle.cases.proofs.Inverter.{model_read, accepted_inverter}
use Rattle.cases.proofs.Rules.{the_orders, the_checks}
use Rattle.loop_cases.specs.LoopCases.{steppers, step_orders, LoopsShown}

-- the search over a model's records, and its waits
unfoldable the_search : ℕ
unfolding loop_of chain_of lowest_on round_of walks chain_from next_on first_with any_below some_of leads_to without_delay waits_on constant_above0 in_set
    waits_later wait_later all_below
the_search = 0

inverter_loop : loop_of inverter ≡ []
unfolding the_search inverter
inverter_loop = refl

inverter_later : waits_later inverter ≡ true
unfolding the_search inverter
inverter_later = refl

inverter_checked : check_of inverter_bytes ≡ record { number = 0; chain = []; later = true }
inverter_checked = check_accepted inverter_bytes accepted_inverter ∙ rw (model_read, inverter_loop, inverter_later)

steppers_accepted : Accepted steppers
unfolding the_checks steppers
steppers_accepted = record { totals = refl; fields = refl; trees = refl; types = refl; owners = refl; nulls = refl; symmetric = refl; associative = refl }

steppers_loop : loop_of steppers ≡ []
unfolding the_search steppers
steppers_loop = refl

steppers_later : waits_later steppers ≡ true
unfolding the_search steppers
steppers_later = refl

steppers_free : NoChain (leads_to steppers) 2
unfolding loop_of steppers
steppers_free = (rw steppers_loop at (asked (leads_to steppers) 2)).none refl

three : delta_steps steppers 1 step_orders ≡ 3
unfolding the_orders steppers steps_at
three = refl

inverter_number : (check_of inverter_bytes).number ≡ 0
inverter_number = rw inverter_checked

inverter_none : (check_of inverter_bytes).chain ≡ []
inverter_none = rw inverter_checked

inverter_waits : (check_of inverter_bytes).later ≡ true
inverter_waits = rw inverter_checked

pub loops_shown : LoopsShown
unfolding the_search inverter steppers
loops_shown =
    record {
      closed = refl;
      below_zero = refl;
      delayed = refl;
      delayed_there = refl;
      itself = refl;
      shorter = refl;
      inverter_checked = inverter_checked;
      inverter_free = rw model_read at (loop_laws.none inverter_bytes inverter_number inverter_none);
      inverter_few = rw model_read at (loop_laws.few inverter_bytes inverter_number inverter_none inverter_waits);
      accepted = steppers_accepted;
      met = three;
      never_more = few_of steppers (facts steppers steppers_accepted) steppers_free steppers_later;
    }
