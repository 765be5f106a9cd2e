use Rattle.std.proofs.Common.{rules}
use Rattle.values.specs.Resolve.{pair_in}
use Rattle.values.proofs.Resolution.{table_laws}
use Rattle.values.proofs.pair.Goals as goal

pub returns : goal.returns
unfolding pair_in
returns c =
    let j = c.code-j.ensures.0 in
    let i = c.code-i.ensures.0 in
    record { value = rw (← i, ← j) (search rules); table_laws = table_laws _ }
