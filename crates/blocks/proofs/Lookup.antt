-- The laws of the index: record n of a kind is the one that its start names. Assumes nothing.
use mathlib.Core.Path.{◌≡◌, sym, ap, ◌∙◌}
use mathlib.Core.Bool.{true}
use mathlib.Core.Logic.{⊎_elim, ◌⊎◌, inl, inr}
use mathlib.Core.List.{List}
use Prim.Native.Nat.{ℕ, ◌+◌, ◌≤◌, ◌<◌}
use native.Mathlib.Omega.{arith}
use lib.Dec.{eqb}
use borrow.Author.Tests.{leb-true, eqb-true}
use lib.ListN.{length, get_or, length-map, length-take, length-drop}
use Rattle.base.proofs.Below.{or_cases, every_at, map_at}
use Rattle.blocks.specs.Blocks.{starts_of, total_of, part_at}
use Rattle.blocks.specs.Records.{Model, model_of, records_of, signal_of, variable_of, process_of, driver_of, node_of, statement_of, row_of}
use Rattle.blocks.specs.Totals.{totals_ok}
use Rattle.blocks.specs.Index.{Starts, section_of}
use Rattle.blocks.proofs.Starts.{starts_length, starts_in_lem}

module _ {A : Type 0} (read : List ℕ → A) (k : ℕ) (m : List ℕ) where
  pub records_length : length (records_of read k m) ≡ total_of k m
  unfolding records_of
  records_length = length-map (starts_of k m) _ ∙ starts_length m k

  pub record_at : (d : A) (n : ℕ) → n < total_of k m → get_or (records_of read k m) n d ≡ read (part_at m (get_or (starts_of k m) n 0))
  unfolding records_of
  record_at d n h = map_at _ (starts_of k m) n 0 d (rw starts_length h)

-- how many records of each kind the model has
module _ (m : List ℕ) where
  pub signals_length : length (model_of m).signals ≡ total_of 1 m
  unfolding model_of
  signals_length = records_length signal_of 1 m

  pub variables_length : length (model_of m).variables ≡ total_of 2 m
  unfolding model_of
  variables_length = records_length variable_of 2 m

  pub processes_length : length (model_of m).processes ≡ total_of 3 m
  unfolding model_of
  processes_length = records_length process_of 3 m

  pub drivers_length : length (model_of m).drivers ≡ total_of 4 m
  unfolding model_of
  drivers_length = records_length driver_of 4 m

  pub nodes_length : length (model_of m).nodes ≡ total_of 5 m
  unfolding model_of
  nodes_length = records_length node_of 5 m

  pub statements_length : length (model_of m).statements ≡ total_of 6 m
  unfolding model_of
  statements_length = records_length statement_of 6 m

  pub rows_length : length (model_of m).rows ≡ total_of 7 m
  unfolding model_of
  rows_length = records_length row_of 7 m

-- the totals are within their limits
module _ (M : Model) (h : totals_ok M ≡ true) where
  pub signals_most : length M.signals ≤ 32
  unfolding totals_ok
  signals_most = leb-true _ 32 (every_at _ 0 h)

  pub variables_most : length M.variables ≤ 64
  unfolding totals_ok
  variables_most = leb-true _ 64 (every_at _ 1 h)

  pub processes_some : 1 ≤ length M.processes
  unfolding totals_ok
  processes_some = leb-true 1 _ (every_at _ 2 h)

  pub processes_most : length M.processes ≤ 16
  unfolding totals_ok
  processes_most = leb-true _ 16 (every_at _ 3 h)

  pub drivers_most : length M.drivers ≤ 64
  unfolding totals_ok
  drivers_most = leb-true _ 64 (every_at _ 4 h)

  pub nodes_most : length M.nodes ≤ 400
  unfolding totals_ok
  nodes_most = leb-true _ 400 (every_at _ 5 h)

  pub statements_some : 1 ≤ length M.statements
  unfolding totals_ok
  statements_some = leb-true 1 _ (every_at _ 6 h)

  pub statements_most : length M.statements ≤ 200
  unfolding totals_ok
  statements_most = leb-true _ 200 (every_at _ 7 h)

  -- none or nine
  pub rows_total : (length M.rows ≡ 0) ⊎ (length M.rows ≡ 9)
  unfolding totals_ok
  rows_total =
      ⊎_elim (λ e. inl (eqb-true _ 0 e)) (λ e. inr (eqb-true _ 9 e))
      (or_cases (eqb (length M.rows) 0) (eqb (length M.rows) 9) (every_at _ 8 h))

  pub rows_most : length M.rows ≤ 9
  rows_most = ⊎_elim (λ (e : length M.rows ≡ 0). omega arith) (λ (e : length M.rows ≡ 9). omega arith) rows_total

-- record n of kind k, whose start the index has at `place`: it lies within the model, and is that of the definition
module _ (k : ℕ) (m index : List ℕ) (n place : ℕ) (e : place ≡ section_of k + n) (s : Starts m index) (h : n < total_of k m) where
  pub inside : get_or index place 0 + 12 ≤ length m
  inside = rw (e, s.start k n h) (starts_in_lem m k n s.heads h)

-- record n of kind k is there, and is what its 12 bytes say
module _ {A : Type 0} (read : List ℕ → A) (k : ℕ) (m : List ℕ) (n : ℕ) (h : n < length (records_of read k m)) where
  pub there : n < total_of k m
  there = rw records_length at h

  pub said_by : (d r : A) (part : List ℕ) → r ≡ read part → part ≡ part_at m (get_or (starts_of k m) n 0) → r ≡ get_or (records_of read k m) n d
  said_by d r part e f = e ∙ ap read f ∙ sym (record_at read k m d n there)

-- and its 12 bytes are as many
pub part_length : (m : List ℕ) (start : ℕ) → start + 12 ≤ length m → length (part_at m start) ≡ 12
part_length m start h = rw (length-take, length-drop) (omega arith)
