-- The sections of the index, one for each kind: filled one after the other, they say where each record begins.
-- Assumes nothing.
use mathlib.Core.Path.{◌≡◌, ◌∙◌}
use mathlib.Core.Bool.{true}
use mathlib.Core.List.{List}
use mathlib.Core.Logic.{⊎_elim}
use Prim.Native.Nat.{ℕ, zero, suc, ◌+◌, ◌≤◌, ◌<◌}
use native.Mathlib.Nat.{not-suc-le-zero, eq-or-lt_of_le, le_of_suc-le-suc}
use native.Mathlib.Omega.{arith}
use lib.ListN.{length, get_or}
use Rattle.base.proofs.Below.{among}
use Rattle.blocks.specs.Index.{types_at, section_of, placed, Starts}
use Rattle.blocks.specs.Blocks.{heads_ok, starts_of, total_of}
use Rattle.blocks.specs.Records.{model_of}
use Rattle.blocks.specs.Totals.{totals_ok}
use Rattle.blocks.proofs.Starts.{starts_length, total_kind}
use Rattle.blocks.proofs.Places.{placed_at, placed_before}
use Rattle.blocks.proofs.Lookup.{signals_length, variables_length, processes_length, drivers_length, nodes_length, statements_length, rows_length, signals_most, variables_most, processes_most, drivers_most, nodes_most, statements_most, rows_most}

-- the sections of the kinds below `kind` are filled
abbrev pub Filled : List ℕ → ℕ → List ℕ → Type 0
Filled m kind out = (k n : ℕ) → k < kind → n < total_of k m → get_or out (section_of k + n) 0 ≡ get_or (starts_of k m) n 0

module _ (m : List ℕ) (heads : heads_ok m ≡ true) (totals : totals_ok (model_of m) ≡ true) where
  room_1 : total_of 1 m ≤ 32
  room_1 = rw signals_length at (signals_most _ totals)

  room_2 : total_of 2 m ≤ 64
  room_2 = rw variables_length at (variables_most _ totals)

  room_3 : total_of 3 m ≤ 16
  room_3 = rw processes_length at (processes_most _ totals)

  room_4 : total_of 4 m ≤ 64
  room_4 = rw drivers_length at (drivers_most _ totals)

  room_5 : total_of 5 m ≤ 400
  room_5 = rw nodes_length at (nodes_most _ totals)

  room_6 : total_of 6 m ≤ 200
  room_6 = rw statements_length at (statements_most _ totals)

  room_7 : total_of 7 m ≤ 9
  room_7 = rw rows_length at (rows_most _ totals)

  -- each section ends where the next begins, or before
  section_next : (k : ℕ) → 1 ≤ k → k < 7 → section_of k + total_of k m ≤ section_of (suc k)
  unfolding section_of
  section_next k l h =
      among (λ (j : ℕ). section_of j + total_of j m ≤ section_of (suc j)) 1 6 k
      (omega (arith, room_1), (omega (arith, room_2), (omega (arith, room_3), (omega (arith, room_4), (omega (arith, room_5), (omega (arith, room_6), tt))))))
      l h

  pub section_room : (k : ℕ) → 1 ≤ k → k ≤ 7 → section_of k + total_of k m ≤ types_at
  unfolding section_of
  section_room k l h =
      among (λ (j : ℕ). section_of j + total_of j m ≤ types_at) 1 7 k
      (omega (arith, room_1), (omega (arith, room_2), (omega (arith, room_3), (omega (arith, room_4), (omega (arith, room_5), (omega (arith, room_6), (omega (arith, room_7), tt)))))))
      l (omega arith)

  section_apart : (j k : ℕ) → 1 ≤ j → j < k → k ≤ 7 → section_of j + total_of j m ≤ section_of k
  section_apart j zero p l h = absurd (not-suc-le-zero l)
  section_apart j (suc k) p l h =
      ⊎_elim (λ (e : j ≡ k). rw e (section_next k (omega arith) (omega arith)))
      (λ (g : j < k). omega (arith, section_apart j k p g (omega arith), section_next k (omega arith) (omega arith)))
      (eq-or-lt_of_le (le_of_suc-le-suc l))

  pub filled_none : (out : List ℕ) → Filled m 1 out
  filled_none out k n l h = absurd (omega (arith, (total_kind m k n heads h).0))

  pub filled_next : (kind : ℕ) (out : List ℕ) → 1 ≤ kind → kind ≤ 7 → types_at ≤ length out → Filled m kind out → Filled m (kind + 1) (placed out (section_of kind) (starts_of kind m))
  filled_next kind out p q r f k n l h =
      let room : section_of kind + length (starts_of kind m) ≤ length out = rw starts_length (omega (arith, section_room kind p q)) in
      ⊎_elim (λ (e : k ≡ kind). rw e (placed_at out (section_of kind) (starts_of kind m) room n (rw (starts_length, ← e) h)))
      (λ (g : k < kind).
      placed_before out (section_of kind) (starts_of kind m) room (section_of k + n) (omega (arith, section_apart k kind (total_kind m k n heads h).0 g q)) ∙ f k n g h)
      (eq-or-lt_of_le (omega arith))

  pub filled_all : (out : List ℕ) → Filled m 8 out → Starts m out
  filled_all out f =
      record {
        heads = heads;
        totals = totals;
        start = λ k n h. f k n (omega (arith, (total_kind m k n heads h).1)) h;
      }

-- an index with the same sections says the same: writing from entry types_at on changes no start
pub starts_kept : (m index after : List ℕ) → Starts m index → ((i : ℕ) → i < types_at → get_or after i 0 ≡ get_or index i 0) → Starts m after
starts_kept m index after s h =
    record {
      heads = s.heads;
      totals = s.totals;
      start = λ k n l.
          let g = total_kind m k n s.heads l in
          h (section_of k + n) (omega (arith, section_room m s.heads s.totals k g.0 g.1)) ∙ s.start k n l;
    }
