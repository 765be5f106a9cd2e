use Rattle.base.specs.Below.{list_below}
use Rattle.blocks.specs.Records.{row_of}
use Rattle.blocks.proofs.records.read_row.Goals as goal

pub returns : goal.returns
unfolding row_of list_below
returns c = rw c.zeros.ensures
