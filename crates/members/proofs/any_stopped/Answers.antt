-- `any_stopped`: what the chain answers. Assumes nothing.
use mathlib.Core.Path.{refl}
use mathlib.Core.Bool.{◌&&◌}
use lib.Dec.{eqb}
use lib.ListN.{get_or}
use Rattle.std.proofs.Common.{rules, tests}
use Rattle.base.proofs.Ranges.{any_from_range}
use Rattle.sets.specs.Sets.{in_set}
use Rattle.rules.specs.Orders.{some_member}
use Rattle.members.proofs.any_stopped.Goals as goal

pub returns : goal.returns
unfolding some_member
returns c =
    any_from_range (λ p. in_set c.args.set p && eqb (get_or c.args.standings.now p 0) 2) c.any.ensures.ran refl (λ x b q k. search (rules, tests))
