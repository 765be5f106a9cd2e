use Rattle.std.proofs.Common.{rules}
use Rattle.std.proofs.lemmas.List.{nil_from_length}
use Rattle.base.proofs.Iterators.{fold_from_slice}
use Rattle.values.specs.Resolve.{pair_in, resolution_by}
use Rattle.values.proofs.resolve_by.Goals as goal

pub returns-in-Some : goal.returns-in-Some
unfolding resolution_by
returns-in-Some c = rw c.in-Some.ensures.cases.0 (fold_from_slice (pair_in c.args.table.now) c.fold.ensures.ran c.iter.ensures.rest (λ b x r q k. search rules))

pub returns-in-None : goal.returns-in-None
unfolding resolution_by
returns-in-None c = rw (nil_from_length _ c.in-None.ensures.cases)
