-- Laws of a dump: which number it has, what is written where it is refused and where it is not, and that it is read back. Assumes nothing.
use mathlib.Core.Path.{◌≡◌, refl, sym, ◌∙◌}
use mathlib.Core.Bool.{true, false}
use mathlib.Core.List.{List, [], ◌∷◌, ◌++◌, map}
use Prim.Native.Nat.{ℕ, ◌+◌, ◌*◌, ◌≤◌, ◌<◌}
use native.Mathlib.Omega.{arith}
use borrow.Author.Tests.{eq-eqb, ne_eqb, le-leb, lt-leb}
use lib.Dec.{eqb, leb}
use lib.ListN.{length, get_or, take, drop, take-append-drop, length-map, length-take}
use lib.Seq.{get_or-take}
use Rattle.std.specs.Prelude.{Ok, Err}
use Rattle.base.specs.Refusals.{number_of}
use Rattle.base.specs.declared.refusal.Refusal.{Refusal}
use Rattle.base.specs.Rules.{◌needs◌, first_failing}
use Rattle.base.proofs.Below.{list_at, list_is, list_same, map_at}
use Rattle.base.proofs.Rules.{none_left, passes, fails, first_decides}
use Rattle.blocks.specs.Records.{Model, model_of, signal_at}
use Rattle.blocks.specs.declared.records.SignalRecord.{SignalRecord}
use Rattle.model.specs.Rules.{refusal_of}
use Rattle.model.proofs.Facts.{facts}
use Rattle.model.proofs.Rules.{number_some, model_decides, others_decide, later_ones_decide, accepted}
use Rattle.rules.specs.Configuration.{Configuration, first, current_of, empty}
use Rattle.rules.proofs.FirstReachable.{first_reachable}
use Rattle.cycle.specs.Arrays.{EntriesAre}
use Rattle.session.specs.Lists.{orders_of}
use Rattle.session.specs.Sessions.{orders_ok}
use Rattle.vcd.specs.Vcd.{row_in, value_in, dump_text}
use Rattle.vcd.specs.Writing.{header_most, row_most, rows_of}
use Rattle.numerals.specs.Puts.{Puts}
use Rattle.vcd.proofs.ReadBack.{dumps_read_back}
use Rattle.dumps.specs.Dumps.{dump_of, run_rules, run_number, dump_number, dumped_of, DumpIs, ReadsBack, TimesOfRuns, RoomHolds}
use Rattle.dumps.specs.Run.{settled_in, run_of, row_at, types_of, signal_type, Traced}
use Rattle.dumps.proofs.RunLaws.{first_settled, times_rise}

-- the number
module _ (m o : List ℕ) where
  pub run_refused : (refusal_of m ≡ 0 → ⊥) → run_number m o ≡ refusal_of m
  unfolding run_number
  run_refused h = model_decides m _ h

  by_orders : refusal_of m ≡ 0 → run_number m o ≡ first_failing ((9 needs orders_ok o) ∷ [])
  unfolding run_number
  by_orders h = others_decide m _ h

  pub run_nine : refusal_of m ≡ 0 → orders_ok o ≡ false → run_number m o ≡ 9
  run_nine h e = by_orders h ∙ sym (fails 9 _ _ refl e)

  pub run_free : refusal_of m ≡ 0 → orders_ok o ≡ true → run_number m o ≡ 0
  run_free h e = by_orders h ∙ passes 9 _ _ refl e ∙ sym none_left

  module _ (out : List ℕ) where
    -- any other number comes before 21
    pub before_room : (run_number m o ≡ 0 → ⊥) → dump_number m o out ≡ run_number m o
    unfolding dump_number run_number
    before_room h = first_decides (run_rules m o) _ h

    by_room : run_number m o ≡ 0 → dump_number m o out ≡ first_failing ((21 needs leb (length (dump_of m o)) (length out)) ∷ [])
    unfolding dump_number run_number
    by_room h = later_ones_decide m ((9 needs orders_ok o) ∷ []) _ refl h

    pub no_room : run_number m o ≡ 0 → length out < length (dump_of m o) → dump_number m o out ≡ 21
    no_room h l = by_room h ∙ sym (fails 21 _ _ refl (lt-leb _ _ l))

    pub enough_room : run_number m o ≡ 0 → length (dump_of m o) ≤ length out → dump_number m o out ≡ 0
    enough_room h l = by_room h ∙ passes 21 _ _ refl (le-leb _ _ l) ∙ sym none_left

    -- a refused dump writes nothing
    pub refused_dump : (r : Refusal) → number_of r ≡ dump_number m o out → DumpIs m o out out (Err r)
    unfolding dumped_of
    refused_dump r e =
        let k : eqb (dump_number m o out) 0 ≡ false = ne_eqb _ _ (λ z. omega (arith, e, z, number_some r)) in
        record { number = rw k e; length = rw k refl; buffer = rw k refl }

    pub written_dump : {new : List ℕ} {n r : ℕ} → run_number m o ≡ 0 → n ≡ length (dump_of m o) → n ≤ length out → Puts (dump_of m o) out new 0 r
        → DumpIs m o out new (Ok n)
    unfolding dumped_of
    written_dump {new} {n} {r} h e l p =
        let fits : length (dump_of m o) ≤ length out = omega arith in
        let k : eqb (dump_number m o out) 0 ≡ true = eq-eqb _ _ (enough_room h fits) in
        let q : r ≡ length (dump_of m o) = omega (arith, p.place) in
        let whole : new ≡ dump_of m o ++ drop (length (dump_of m o)) out = sym (take-append-drop r new) ∙ rw (p.bytes (omega arith), p.rest (omega arith), q) in
        record { number = rw k refl; length = rw k e; buffer = rw k whole }

-- the types, entry by entry
type_at : (M : Model) (n : ℕ) (d : ℕ) → n < length M.signals → get_or (types_of M) n d ≡ (signal_at M n).ty
type_at M n d h = map_at (λ (s : SignalRecord). s.ty) M.signals n _ d h

-- a front is no longer than what was asked for
pub take_few : (n : ℕ) (xs : List ℕ) → length (take n xs) ≤ n
take_few n xs = rw length-take (omega arith)

-- what the fronts of the arrays hold is the dump
pub array_text : (m o : List ℕ) (n : ℕ) (types times values : List ℕ) (count : ℕ) → n ≡ length (model_of m).signals → EntriesAre (signal_type (model_of m)) n types
    → n ≤ length types → count ≤ length times → Traced (model_of m) (run_of m o) times values count
    → dump_text (take n types) (rows_of (length (take n types)) (take count times) values (length (take count times))) ≡ dump_of m o
unfolding dump_of
array_text m o n types times values count e f few short t =
    let long : length (take n types) ≡ n = rw length-take (omega arith) in
    let ts : types_of (model_of m) ≡ take n types =
    sym (list_is (λ j. get_or (take n types) j 0) (types_of (model_of m)) 0 n (length-map (model_of m).signals _ ∙ sym e) (λ j h. get_or-take n types j 0 h ∙ f.at j h ∙ sym (type_at (model_of m) j 0 (omega arith))))
    ∙ list_is (λ j. get_or (take n types) j 0) (take n types) 0 n long (λ j h. refl) in
    let counted : length (take count times) ≡ count = rw length-take (omega arith) in
    let rows : rows_of n (take count times) values count ≡ rows_of n times values count =
    list_same _ _ count (λ k h. rw (get_or-take count times k 0 h)) in
    rw (long, counted, rows, ← ts, e, t.rows)

row_time : (M : Model) (c : Configuration) → (row_at M c).time ≡ c.time
unfolding row_at
row_time M c = refl

row_value : (M : Model) (c : Configuration) (n : ℕ) → n < length M.signals → value_in (row_at M c) n ≡ current_of c.signals n
unfolding row_at
row_value M c n h = list_at (current_of c.signals) 0 (length M.signals) n h

-- the times
pub times_of_runs : TimesOfRuns
unfolding run_of
times_of_runs m o h =
    let M = model_of m in
    let fs = facts M (accepted m h) in
    let r = first_reachable M fs in
    (first_settled M fs (orders_of o) (first M) r ∙ (unfold first in refl), times_rise M fs (orders_of o) (first M) r)

-- read back
pub reads_back : ReadsBack
unfolding dump_of run_of
reads_back m o h k n l g =
    let M = model_of m in
    let fs = facts M (accepted m h) in
    let run = settled_in M (orders_of o) (first M) in
    let rise = times_rise M fs (orders_of o) (first M) (first_reachable M fs) in
    let row : row_in (map (row_at M) run) k ≡ row_at M (get_or run k empty) = map_at (row_at M) run k empty _ l in
    let back = dumps_read_back (types_of M) (map (row_at M) run) rise k n (rw length-map l) (rw length-map g) in
    rw (row, row_time, type_at M n 1 g, row_value M (get_or run k empty) n g) at back

pub nine_some : ◌≡◌ {A = ℕ} 9 0 → ⊥
nine_some e = omega arith

-- the program's room holds it
pub room_holds : (m o : List ℕ) {n count : ℕ} → n ≡ length (dump_of m o) → n ≤ header_most + count * row_most → count ≤ 2049 → RoomHolds m o
room_holds m o e h l z = omega arith
