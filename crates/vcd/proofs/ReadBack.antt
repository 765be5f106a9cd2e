-- A dump is read back. Assumes nothing.
use mathlib.Core.Path.{◌≡◌, refl}
use mathlib.Core.Bool.{Bool, true}
use mathlib.Core.List.{List, ◌∷◌}
use Prim.Native.Nat.{ℕ, zero, suc}
use lib.Dec.{eqb}
use lib.ListN.{length}
use Rattle.base.specs.Below.{All, any_below, join_below}
use Rattle.base.proofs.All.{all_append, all_join}
use Rattle.base.proofs.Below.{◌and◌}
use Rattle.base.proofs.Cases.{by_test, either_way}
use Rattle.vcd.specs.Vcd.{Row, integer, written_of, identifier_of, value_line, time_line, type_in, value_in, row_in, width_of}
use Rattle.vcd.specs.Vcd.{shown_lines, differs, later_lines, row_lines, header_lines, dump_lines, dump_text}
use Rattle.vcd.specs.Reader.{words_in, extended, value_at}
use Rattle.vcd.specs.ReadBack.{mapped_of, DumpsReadBack}
use Rattle.vcd.proofs.Words.{solid, Solid, joined, words_of}
use Rattle.vcd.proofs.Numbers.{decimal_plain, binary_plain, binary_read}
use Rattle.vcd.proofs.Header.{identifier_solid, header_solid, header_size, header_changes}
use Rattle.vcd.proofs.Changes.{by_character, digits_of}
use Rattle.vcd.proofs.Rows.{rows_read}

-- the words of a line are solid
time_solid : (t : ℕ) → Solid (time_line t)
unfolding time_line
time_solid t = decimal_plain t and tt

value_solid : (ty v n : ℕ) → Solid (value_line ty v n)
unfolding value_line written_of
value_solid ty v n =
    let i = identifier_solid n in
    either_way (eqb ty integer)
    (λ e. rw e (binary_plain v and i and tt))
    (λ e. rw e (by_character (λ c. solid (c ∷ identifier_of n) ≡ true) v i i i i and tt))

module _ (types : List ℕ) where
  shown_solid : (shown : ℕ → Bool) (r : Row) → All Solid (shown_lines types shown r)
  unfolding shown_lines
  shown_solid shown r =
      all_join Solid _ (length types)
      (λ n l. by_test (All Solid) (shown n) _ _ (λ e. value_solid (type_in types n) (value_in r n) n and tt) (λ e. tt))

  timed_solid : (shown : ℕ → Bool) (r : Row) → All Solid (time_line r.time ∷ shown_lines types shown r)
  timed_solid shown r = time_solid r.time and shown_solid shown r

  row_solid : (rows : List Row) (k : ℕ) → All Solid (row_lines types rows k)
  unfolding row_lines later_lines
  row_solid rows zero = timed_solid (λ n. true) (row_in rows 0)
  row_solid rows (suc k) =
      let changes = differs types (row_in rows k) (row_in rows (suc k)) in
      either_way (any_below changes (length types)) (λ e. rw e (timed_solid changes (row_in rows (suc k)))) (λ e. rw e tt)

  pub dump_words : (rows : List Row) → words_in (dump_text types rows) ≡ joined (dump_lines types rows)
  unfolding dump_text dump_lines
  dump_words rows =
      words_of (dump_lines types rows)
      (all_append Solid (header_lines types) _ (header_solid types) (all_join Solid (row_lines types rows) (length rows) (λ k l. row_solid rows k)))

-- the digits of a written value, extended
extended_digits : (ty v : ℕ) → extended (width_of ty) (digits_of ty v) ≡ mapped_of ty v
unfolding digits_of mapped_of
extended_digits ty v = either_way (eqb ty integer) (λ e. rw e (binary_read v)) (λ e. rw e (unfold extended in refl))

pub dumps_read_back : DumpsReadBack
unfolding value_at dump_lines
dumps_read_back types rows times k n h g =
    let ls = join_below (row_lines types rows) (length rows) in
    rw (dump_words, header_size types n ls g, header_changes types ls, rows_read types n (row_in rows k).time g rows times k h refl)
    (extended_digits (type_in types n) (value_in (row_in rows k) n))
