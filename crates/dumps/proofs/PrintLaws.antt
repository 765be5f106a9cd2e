-- Laws of what the program prints: the dump or the number, and the rooms for the files. Assumes nothing.
use mathlib.Core.Path.{◌≡◌, sym, ◌∙◌}
use mathlib.Core.Bool.{true}
use mathlib.Core.List.{List, ◌++◌}
use Prim.Native.Nat.{ℕ, ◌≤◌, ◌<◌}
use native.Mathlib.Decide.{ℕ_discrete}
use native.Mathlib.Omega.{arith}
use borrow.Author.Tests.{eqb-true, eq-eqb, ne_eqb}
use lib.Dec.{eqb}
use lib.ListN.{length, take, drop}
use lib.Seq.{take-append_seam}
use Rattle.std.specs.Prelude.{Result}
use Rattle.base.specs.Refusals.{told}
use Rattle.base.specs.declared.refusal.Refusal.{Refusal}
use Rattle.base.proofs.Cases.{either_way}
use Rattle.model.specs.Rules.{refusal_of}
use Rattle.text.specs.Text.{number_line_of, RoomsSuffice}
use Rattle.text.proofs.PrintLaws.{long_orders, long_model, long_number, long_is, long_refused, rooms_by}
use Rattle.dumps.specs.Dumps.{dump_of, run_number, dump_number, dumped_of, length_of, DumpIs, dump_room, RoomHolds, print_of}
use Rattle.dumps.proofs.DumpLaws.{run_refused, run_nine, before_room, enough_room}

module _ (m o : List ℕ) where
  refused_print : (run_number m o ≡ 0 → ⊥) → print_of m o ≡ number_line_of (run_number m o)
  unfolding print_of
  refused_print h = rw (ne_eqb _ _ h)

  dump_print : run_number m o ≡ 0 → print_of m o ≡ dump_of m o
  unfolding print_of
  dump_print h = rw (eq-eqb _ _ h)

  -- where the buffer has the program's room, 21 does not apply
  module _ {old new : List ℕ} {r : Result ℕ Refusal} (room : dump_room ≤ length old) (holds : RoomHolds m o) (is : DumpIs m o old new r) where
    number_is : told r ≡ run_number m o
    unfolding dumped_of
    number_is =
        let e : told r ≡ dump_number m o old = is.number ∙ either_way (eqb (dump_number m o old) 0) (λ t. rw t (sym (eqb-true _ _ t))) (λ t. rw t) in
        elim (ℕ_discrete (run_number m o) 0) [
          | yes z ↦ let h = holds z in e ∙ enough_room m o old z (omega arith) ∙ sym z
          | no z ↦ e ∙ before_room m o old z
        ]

    pub prints_number : (told r ≡ 0 → ⊥) → number_line_of (told r) ≡ print_of m o
    prints_number h = rw number_is (sym (refused_print (λ z. h (number_is ∙ z))))

    module _ (z : told r ≡ 0) where
      free : run_number m o ≡ 0
      free = sym number_is ∙ z

      is_written : eqb (dump_number m o old) 0 ≡ true
      is_written = let h = holds free in eq-eqb _ _ (enough_room m o old free (omega arith))

      length_is : length_of r ≡ length (dump_of m o)
      unfolding dumped_of
      length_is = is.length ∙ rw is_written

      pub prints_dump : take (length_of r) new ≡ print_of m o
      unfolding dumped_of
      prints_dump =
          let b : new ≡ dump_of m o ++ drop (length (dump_of m o)) old = is.buffer ∙ rw is_written in
          rw (b, length_is) (take-append_seam (dump_of m o) _) ∙ sym (dump_print free)

      pub prints_within : length_of r ≤ dump_room
      prints_within = let h = holds free in omega (arith, length_is)

-- files that are longer than their rooms
long_number_lem : (m o : List ℕ) → 16384 < length o → run_number m o ≡ long_number m
long_number_lem m o l = long_is m (λ e. run_nine m o e (long_orders o l)) (run_refused m o)

long_orders_print : (m o : List ℕ) → 16384 < length o → print_of m o ≡ number_line_of (long_number m)
long_orders_print m o l =
    let n = long_number_lem m o l in
    refused_print m o (λ z. long_refused m (sym n ∙ z)) ∙ rw n

long_model_print : (m o : List ℕ) → 32768 < length m → print_of m o ≡ number_line_of 1
long_model_print m o l =
    let e : refusal_of m ≡ 1 = long_model m l in
    let some : (refusal_of m ≡ 0 → ⊥) = λ z. let q : ◌≡◌ {A = ℕ} 1 0 = sym e ∙ z in omega arith in
    let n : run_number m o ≡ 1 = run_refused m o some ∙ e in
    refused_print m o (λ z. let q : ◌≡◌ {A = ℕ} 1 0 = sym n ∙ z in omega arith) ∙ rw n

pub rooms_suffice : RoomsSuffice print_of
rooms_suffice = rooms_by print_of long_model_print long_orders_print
