-- The table as the code holds it is the paper's.
use Rattle.values.specs.Resolve.{standard_rows}
use Rattle.values.proofs.standard.Goals as goal

pub returns : goal.returns
unfolding standard_rows
returns c = c.entry.ensures
