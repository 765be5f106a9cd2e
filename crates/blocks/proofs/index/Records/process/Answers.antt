use Rattle.std.proofs.Common.{refl}
use Rattle.blocks.specs.Records.{model_of, process_of}
use Rattle.blocks.specs.Index.{section_of}
use Rattle.blocks.proofs.Lookup.{there, said_by}
use Rattle.blocks.proofs.index.Records.process.Goals as goal

pub part-requires-clause-section_value : goal.part-requires-clause-section_value
unfolding section_of
part-requires-clause-section_value c = refl

pub part-requires-clause-n_bound : goal.part-requires-clause-n_bound
unfolding model_of
part-requires-clause-n_bound c = there process_of 3 _ _ c.requires

pub returns : goal.returns
unfolding model_of
returns c = said_by process_of 3 _ _ c.requires _ _ _ c.read_process.ensures c.part.ensures.part
