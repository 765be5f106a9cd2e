-- The types of the nodes, as the index keeps them.
use Rattle.std.specs.Prelude.{◌≡◌, List, ℕ, ◌+◌, ◌<◌, length, get_or}
use Rattle.blocks.specs.Records.{model_of}
use Rattle.blocks.specs.Index.{types_at, index_size, Starts}
use Rattle.blocks.specs.declared.index.Records.{Records}
use Rattle.blocks.specs.Lent.{model_in}
use Rattle.trees.specs.Trees.{type_of}

-- entry types_at + k is the type of node k, for each k below n
abbrev pub TypesBelow : List ℕ → List ℕ → ℕ → Type 0
TypesBelow m index n = (k : ℕ) → k < n → get_or index (types_at + k) 0 ≡ type_of (model_of m) k

-- the index of a model's records has the types of its nodes
abbrev pub TypesKnown : Records → Type 0
TypesKnown r = TypesBelow r.bytes.now r.index.now (length (model_in r).nodes)

-- an index with the starts, and with the types of the nodes
pub record TypesIn (m index : List ℕ) : Type 0 where
  pub size : length index ≡ index_size
  pub starts : Starts m index
  pub type : TypesBelow m index (length (model_of m).nodes)
