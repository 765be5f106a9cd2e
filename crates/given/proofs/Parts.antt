-- The model that the parts of given records and of a text hold is the one that they make.
-- Assumes nothing.
use mathlib.Core.Path.{◌≡◌, ap}
use mathlib.Core.Bool.{true}
use mathlib.Core.List.{List}
use Prim.Native.Nat.{ℕ, ◌+◌, ◌*◌, ◌-◌, ◌/◌, ◌≤◌, ◌<◌}
use native.Mathlib.Omega.{arith}
use borrow.Author.Tests.{eqb-true}
use lib.ListN.{length, take, drop, length-drop}
use lib.Seq.{length-take-le, drop_at, take-add, take-take, drop-drop}
use Rattle.base.proofs.Below.{list_same}
use Rattle.blocks.specs.Blocks.{part_at}
use Rattle.blocks.specs.Records.{signal_of, variable_of, driver_of}
use Rattle.grammar.specs.Grammar.{Statement, Sentence}
use Rattle.grammar.specs.Made.{made_statements}
use Rattle.packing.specs.Packed.{records_in, model_in}
use Rattle.given.specs.Given.{signals_given, variables_given, drivers_given, variables_from, drivers_from, given_end, records_from, model_from, whole_ok, part, parts_from}
use Rattle.given.proofs.RoundTrip.{process_back, nodes_back, statements_back}

-- n records of those given, that are there
module _ (g : List ℕ) (at n : ℕ) (h : at + 12 * n ≤ length g) where
  pub length_part : length (part g at n) ≡ 12 * n
  length_part = length-take-le (12 * n) (drop at g) (omega (arith, length-drop at g))

  -- one of them: the records before it are dropped, those behind it are not taken
  record_part : (i : ℕ) → i < n → part_at (part g at n) (12 * i) ≡ part_at g (at + 12 * i)
  record_part i l =
      let e : 12 * n ≡ 12 * i + (12 * n - 12 * i) = omega arith in
      let k : length (take (12 * i) (drop at g)) ≡ 12 * i = length-take-le (12 * i) (drop at g) (omega (arith, length-drop at g)) in
      let f : 12 ≤ 12 * n - 12 * i = omega arith in
      rw (e, take-add, drop_at (take (12 * i) (drop at g)) _ (12 * i) k, take-take 12 _ _ f, drop-drop)

  pub part_back : {A : Type 0} (read : List ℕ → A) → records_in read (part g at n) ≡ records_from read g at n
  unfolding records_in
  part_back read =
      let e : length (part g at n) / 12 ≡ n = rw length_part (omega arith) in
      rw e (list_same (λ i. read (part_at (part g at n) (12 * i))) (λ i. read (part_at g (at + 12 * i))) n (λ i l. ap read (record_part i l)))

-- given bytes that are as many as their numbers say
pub given_length : (g : List ℕ) → whole_ok g ≡ true → length g ≡ given_end g
unfolding whole_ok
given_length g h = eqb-true (length g) (given_end g) h

-- what is made of the records given is read off their part, and what is made of the text off its bytes
pub model_back : (text g : List ℕ) (p : Statement) → Sentence text p → whole_ok g ≡ true → model_in (parts_from g p) ≡ model_from g p
unfolding model_in parts_from model_from
model_back text g p h w =
    let l = given_length g w in
    rw (
      part_back g 3 (signals_given g) (omega arith) signal_of,
      part_back g (variables_from g) (variables_given g) (omega arith) variable_of,
      part_back g (drivers_from g) (drivers_given g) (omega arith) driver_of,
      process_back (length (made_statements p)),
      nodes_back text p h,
      statements_back p,
    )
