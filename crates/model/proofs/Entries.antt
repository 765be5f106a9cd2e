-- The laws of the index's drivers, and what loading gives. Assumes nothing.
use mathlib.Core.Path.{◌≡◌, ◌∙◌}
use mathlib.Core.List.{List}
use Prim.Native.Nat.{ℕ, ◌+◌, ◌<◌}
use native.Mathlib.Omega.{arith}
use borrow.Author.Count.{below_more}
use lib.Dec.{lit≤}
use lib.ListN.{length, get_or, set}
use lib.Seq.{get_or-set_same, get_or-set_other}
use Rattle.blocks.specs.Index.{types_at, assignments_at, table_at, placed, Starts}
use Rattle.blocks.specs.Records.{model_of, statement_at}
use Rattle.blocks.proofs.Lookup.{nodes_most, statements_most}
use Rattle.blocks.proofs.Places.{placed_before}
use Rattle.blocks.proofs.Sections.{starts_kept}
use Rattle.fields.specs.Fields.{owner_of}
use Rattle.tables.specs.Tables.{table_of, TableIn}
use Rattle.tables.proofs.Entries.{table_length, table_placed}
use Rattle.model.specs.Rules.{Accepted}
use Rattle.model.specs.Owners.{driver_for}
use Rattle.model.specs.Index.{DriversBelow, DriversIn, Usable}

module _ (m index : List ℕ) (n v : ℕ) where
  pub drivers_next : assignments_at + n < length index → v ≡ driver_for (model_of m) (owner_of (model_of m) n) (statement_at (model_of m) n).a → DriversBelow m index n → DriversBelow m (set index (assignments_at + n) v) (n + 1)
  drivers_next h e t =
      below_more
      (λ k. get_or (set index (assignments_at + n) v) (assignments_at + k) 0 ≡ driver_for (model_of m) (owner_of (model_of m) k) (statement_at (model_of m) k).a)
      n
      (λ k l. get_or-set_other index (assignments_at + n) (assignments_at + k) v 0 (λ u. omega arith) ∙ t k l)
      (get_or-set_same index (assignments_at + n) v 0 h ∙ e)

-- what loading gives: an index with the drivers, in which the table was put
module _ (m before after : List ℕ) (d : DriversIn m before) (e : after ≡ placed before table_at (table_of (model_of m))) where
  same : (i : ℕ) → i < table_at → get_or after i 0 ≡ get_or before i 0
  same i h = rw e (placed_before before table_at (table_of (model_of m)) (rw (table_length, d.types.size) (lit≤ tt)) i h)

  pub table_put : TableIn m after
  table_put = table_placed m before after d.types.size e

  pub table_starts : Starts m after
  table_starts = starts_kept m before after d.types.starts (λ i h. same i (omega arith))

  pub usable : Accepted (model_of m) → Usable m after
  usable a =
      let s = d.types.starts in
      record {
        starts = table_starts;
        accepted = a;
        type = λ k h. same (types_at + k) (omega (arith, nodes_most (model_of m) s.totals)) ∙ d.types.type k h;
        driver = λ k h. same (assignments_at + k) (omega (arith, statements_most (model_of m) s.totals)) ∙ d.driver k h;
        table = table_put;
      }
