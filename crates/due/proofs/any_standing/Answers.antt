-- `any_standing`: what the chain answers. Assumes nothing.
use mathlib.Core.Path.{refl}
use lib.Dec.{eqb}
use lib.ListN.{get_or}
use Rattle.std.proofs.Common.{rules, tests}
use Rattle.base.proofs.Ranges.{any_from_range}
use Rattle.due.proofs.any_standing.Goals as goal

pub returns : goal.returns
returns c = any_from_range (λ p. eqb (get_or c.args.standings.now p 0) c.args.standing) c.any.ensures.ran refl (λ x b q k. search (rules, tests))
