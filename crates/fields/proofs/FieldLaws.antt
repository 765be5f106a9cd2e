-- The laws of rule 5: a node's fields by ranges of its kind, and a process's span. Assumes nothing.
use mathlib.Core.Path.{◌≡◌}
use mathlib.Core.Bool.{false, ◌&&◌}
use mathlib.Core.List.{List, [], ◌∷◌, map}
use Prim.Native.Nat.{ℕ, zero, suc, ◌+◌, ◌≤◌, ◌<◌, zero-le}
use native.Mathlib.Omega.{arith}
use borrow.Author.Tests.{ne_eqb, le-leb, lt-leb, le-ltb}
use mir.Syntax.{w8}
use mir.Val.{Fits}
use lib.Dec.{eqb, leb, leb-zero, lit<}
use lib.ListN.{length, get_or, drop, get_or-eq_default}
use lib.Seq.{get_or-take, get_or-drop}
use Rattle.base.specs.Bytes.{byte_at}
use Rattle.base.specs.Below.{every}
use Rattle.blocks.specs.Blocks.{starts_of, part_at}
use Rattle.blocks.specs.Records.{Model, model_of, records_of, process_of}
use Rattle.blocks.specs.declared.records.NodeRecord.{NodeRecord}
use Rattle.fields.specs.Fields.{node_ok, end_of, in_span}

module _ (M : Model) (d : NodeRecord) where
  -- from 7 on, 10 aside, the kinds are alike
  node_else : 7 ≤ d.kind → (d.kind ≡ 10 → ⊥) → node_ok M d ≡ ((leb d.kind 18 && eqb d.k 0) && d.zeros)
  unfolding node_ok every
  node_else h n =
      let x = d.kind in
      rw (
        ne_eqb x 1 (omega arith),
        ne_eqb x 2 (omega arith),
        ne_eqb x 3 (omega arith),
        ne_eqb x 4 (omega arith),
        ne_eqb x 5 (omega arith),
        ne_eqb x 6 (omega arith),
        ne_eqb x 10 n,
        le-leb 7 x h,
      )

  -- a kind with two operands
  pub node_binary : 7 ≤ d.kind → d.kind ≤ 18 → (d.kind ≡ 10 → ⊥) → (eqb d.k 0 && d.zeros) ≡ node_ok M d
  node_binary lo hi n = rw (node_else lo n, le-leb d.kind 18 hi)

  -- no kind
  pub node_past : 19 ≤ d.kind → false ≡ node_ok M d
  node_past h = rw (node_else (omega arith) (λ e. omega arith), lt-leb d.kind 18 h)

-- what holds of each value of f holds of each element of the mapped list
map_each : {A B : Type 0} (P : B → Type 0) (f : A → B) (xs : List A) (d : B) → ((x : A) → P (f x)) → P d → (n : ℕ) → P (get_or (map f xs) n d)
map_each P f [] d h e n = e
map_each P f (x ∷ xs) d h e zero = h x
map_each P f (x ∷ xs) d h e (suc n) = map_each P f xs d h e n

-- the span of a process is of two words
module _ (m : List ℕ) (bytes : (i : ℕ) → Fits w8 (get_or m i 0)) where
  part_byte : (start i : ℕ) → i < 12 → byte_at (part_at m start) i < 256
  part_byte start i h = rw (get_or-take 12 (drop start m) i 0 h, get_or-drop) (omega (arith, bytes (start + i)))

  pub span_small : (p : ℕ) → end_of (model_of m) p < 131072
  unfolding model_of records_of process_of
  span_small p =
      map_each (λ r. r.first + r.count < 131072) (λ start. process_of (part_at m start)) (starts_of 3 m) _
      (λ s. omega (arith, part_byte s 0 (lit< tt), part_byte s 1 (lit< tt), part_byte s 2 (lit< tt), part_byte s 3 (lit< tt)))
      (lit< tt) p

-- past the last process there is no span
pub no_span : (M : Model) (p a : ℕ) → length M.processes ≤ p → false ≡ in_span M p a
unfolding in_span
no_span M p a h = rw (get_or-eq_default M.processes _ h, le-ltb a 0 zero-le, leb-zero a)
