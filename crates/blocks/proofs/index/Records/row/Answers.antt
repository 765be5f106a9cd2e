use Rattle.std.proofs.Common.{refl}
use Rattle.blocks.specs.Records.{model_of, row_of}
use Rattle.blocks.specs.Index.{section_of}
use Rattle.blocks.proofs.Lookup.{there, said_by}
use Rattle.blocks.proofs.index.Records.row.Goals as goal

pub part-requires-clause-section_value : goal.part-requires-clause-section_value
unfolding section_of
part-requires-clause-section_value c = refl

pub part-requires-clause-n_bound : goal.part-requires-clause-n_bound
unfolding model_of
part-requires-clause-n_bound c = there row_of 7 _ _ c.requires

pub returns : goal.returns
unfolding model_of
returns c = said_by row_of 7 _ _ c.requires _ _ _ c.read_row.ensures c.part.ensures.part
