-- A model's records, as they are lent.
use Rattle.blocks.specs.Records.{Model, model_of}
use Rattle.blocks.specs.declared.index.Records.{Records}

-- the model whose records they are
abbrev pub model_in : Records → Model
model_in r = model_of r.bytes.now
