-- The index that a loaded model is used by: for each record where it begins, for each node its type, for each signal
-- assignment its driver, and the model's pair table.
use Rattle.std.specs.Prelude.{◌≡◌, List, ℕ, ◌+◌, ◌<◌, length, get_or, Result}
use Rattle.std.specs.Result.{IfOk}
use Rattle.base.specs.Refusals.{told}
use Rattle.base.specs.declared.refusal.Refusal.{Refusal}
use Rattle.base.specs.Rules.{first_failing}
use Rattle.blocks.specs.Index.{types_at, assignments_at, Starts}
use Rattle.blocks.specs.Totals.{TotalsOf}
use Rattle.blocks.specs.Records.{model_of, statement_at}
use Rattle.blocks.specs.declared.index.Records.{Records}
use Rattle.blocks.specs.Lent.{model_in}
use Rattle.fields.specs.Fields.{owner_of}
use Rattle.trees.specs.Types.{TypesIn}
use Rattle.trees.specs.Trees.{type_of}
use Rattle.tables.specs.Tables.{TableIn}
use Rattle.model.specs.Rules.{Accepted, refusal_of, record_rules}
use Rattle.model.specs.Owners.{driver_for}
use Rattle.model.specs.declared.load.Loaded.{Loaded}

-- entry assignmentsAt + k is the driver of statement k's process for the signal that it names, for each k below n
abbrev pub DriversBelow : List ℕ → List ℕ → ℕ → Type 0
DriversBelow m index n = (k : ℕ) → k < n
    → get_or index (assignments_at + k) 0 ≡ driver_for (model_of m) (owner_of (model_of m) k) (statement_at (model_of m) k).a

-- the index of a model's records has the drivers of its statements
abbrev pub DriversKnown : Records → Type 0
DriversKnown r = DriversBelow r.bytes.now r.index.now (length (model_in r).statements)

-- an index with the starts, the types, and the drivers of the statements
pub record DriversIn (m index : List ℕ) : Type 0 where
  pub types : TypesIn m index
  pub driver : DriversBelow m index (length (model_of m).statements)

-- an accepted model with its index: entry types_at + n is the type of node n, entry assignmentsAt + n the driver of statement n where
-- that is a signal assignment, and from tableAt on stands the pair table
pub record Usable (m index : List ℕ) : Type 0 where
  pub starts : Starts m index
  pub accepted : Accepted (model_of m)
  pub type : (n : ℕ) → n < length (model_of m).nodes → get_or index (types_at + n) 0 ≡ type_of (model_of m) n
  pub driver : DriversBelow m index (length (model_of m).statements)
  pub table : TableIn m index

-- what the rules of the records give where 1 to 4 hold: the first that applies, or an index to use
pub record Judged (m index : List ℕ) (r : Result Unit Refusal) : Type 0 where
  pub refusal : told r ≡ first_failing (record_rules (model_of m))
  pub usable : told r ≡ 0 → Usable m index

-- what a loaded model has: the totals and the index
pub record LoadedOf (m : List ℕ) (l : Loaded) : Type 0 where
  pub totals : TotalsOf (model_of m) l.totals
  pub usable : Usable m l.index

-- what loading gives: the refusal, or the totals and the index
pub record LoadedIs (m : List ℕ) (r : Result Loaded Refusal) : Type 0 where
  pub refusal : told r ≡ refusal_of m
  pub loaded : IfOk r (LoadedOf m)
