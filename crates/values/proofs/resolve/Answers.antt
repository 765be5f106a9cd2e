use Rattle.values.specs.Resolve.{pair_of, resolution_of}
use Rattle.values.proofs.Resolution.{standard_resolution}
use Rattle.values.proofs.resolve.Goals as goal

pub returns : goal.returns
unfolding resolution_of pair_of
returns c = record { value = rw c.standard_table-table.ensures at c.resolve_by.ensures; resolution_laws = standard_resolution }
