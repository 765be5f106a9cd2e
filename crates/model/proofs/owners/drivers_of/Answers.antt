use mathlib.Core.Path.{sym, ap, ◌∙◌}
use Prim.Native.Nat.{zero-le}
use lib.Dec.{eqb}
use Rattle.base.specs.Cases.{◌∣◌, ◌⇒◌}
use Rattle.base.proofs.Below.{sum_none}
use Rattle.base.proofs.Turns.{sum_turn, sum_ended, count_most}
use Rattle.model.specs.Owners.{drivers_of}
use Rattle.model.proofs.Drivers.{counted}
use Rattle.model.proofs.owners.drivers_of.Goals as goal

pub loop-i-init : goal.loop-i-init
loop-i-init c = (zero-le, sym (sum_none _))

pub loop-i-preserved : goal.loop-i-preserved
loop-i-preserved c =
    let r = c.from-n.ensures ∙ counted (eqb c.driver.result.signal c.args.s) in (
      count_most _ _ _ _ c.args.records.now.totals_of.drivers c.loop-i-test.true c.loop-i.invariant.0 (eqb c.driver.result.signal c.args.s) _ r,
      sum_turn _ _ _ _ c.loop-i.invariant.1 (r ∙ ap (λ e. eqb e.signal c.args.s ⇒ 1 ∣ 0) c.driver.ensures),
    )

pub returns : goal.returns
unfolding drivers_of
returns c = sum_ended _ _ _ _ _ c.loop-i.invariant.1 c.loop-i.auto.i-end c.loop-i-test.false c.args.records.now.totals_of.drivers
