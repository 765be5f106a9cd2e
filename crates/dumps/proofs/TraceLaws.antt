-- The rows of a run in arrays, kept order by order. Assumes nothing.
use mathlib.Core.Path.{◌≡◌, refl, sym, ap, ◌∙◌}
use mathlib.Core.Bool.{Bool, true, false}
use mathlib.Core.List.{List, [], ◌∷◌, ◌++◌, map}
use Prim.Native.Nat.{ℕ, suc, ◌+◌, ◌*◌, ◌-◌, ◌/◌, ◌≤◌, ◌<◌}
use native.Mathlib.Nat.{add-zero}
use native.Mathlib.Numerals.{add-one}
use native.Mathlib.Omega.{arith}
use borrow.Author.Count.{below_more}
use borrow.Rule.Slice.PartMut.{post_of, put_mid}
use lib.ListN.{length, get_or, set, take, drop, length-map, length-take, length-drop, get_or-append}
use lib.Seq.{drop-cons, get_or-take, get_or-append-add, get_or-set_same, get_or-set_other}
use Rattle.base.specs.Below.{list_below}
use Rattle.base.specs.Cases.{◌∣◌, ◌⇒◌}
use Rattle.base.proofs.Cases.{by_test}
use Rattle.base.proofs.Below.{list_same, list_is, list_length, map_at}
use Rattle.blocks.specs.Records.{Model}
use Rattle.model.specs.Facts.{Facts}
use Rattle.rules.specs.Configuration.{Configuration, empty}
use Rattle.rules.specs.Invariant.{Reachable}
use Rattle.rules.specs.Steps.{time_step}
use Rattle.cycle.specs.Arrays.{EntriesAre}
use Rattle.cycle.specs.View.{Valid, view_of}
use Rattle.cycle.specs.declared.config.Config.{Config}
use Rattle.cycle.proofs.ViewLaws.{past_in, nsignals_is}
use Rattle.session.specs.Lists.{Order, Played, order_of, orders_of, performed}
use Rattle.session.specs.Sessions.{PlayedTo}
use Rattle.session.proofs.PlayLaws.{no_orders, next_order_lem, one_order}
use Rattle.vcd.specs.Vcd.{Row}
use Rattle.vcd.specs.Writing.{row_of}
use Rattle.dumps.specs.Run.{steps_time, settled_in, row_at, current_at, RowPut, Traced}
use Rattle.dumps.proofs.RunLaws.{Moves, stays, leaves, performed_moves, row_behind, run_few}

-- a part of 32 values, and a row put into it
pub part_long : (values : List ℕ) (a : ℕ) → a + 32 ≤ length values → length (take (a + 32 - a) (drop a values)) ≡ 32
part_long values a h = simp (length-take, length-drop) (omega arith)

module _ (values last : List ℕ) (k : ℕ) (room : 32 * k + 32 ≤ length values) (full : length last ≡ 32) where
  abbrev new : List ℕ
  new = put_mid (32 * k) (32 * k + 32 - 32 * k) values last

  front : length (take (32 * k) values) ≡ 32 * k
  front = rw length-take (omega arith)

  new_at : (s : ℕ) → s < 32 → get_or new (32 * k + s) 0 ≡ get_or last s 0
  new_at s h =
      let rest = post_of (32 * k) (32 * k + 32 - 32 * k) values in
      rw front at (get_or-append-add (take (32 * k) values) (last ++ rest) s 0) ∙ get_or-append last rest 0 s (omega arith)

  new_before : (i : ℕ) → i < 32 * k → get_or new i 0 ≡ get_or values i 0
  new_before i h = get_or-append (take (32 * k) values) _ 0 i (rw front h) ∙ get_or-take (32 * k) values i 0 h

  pub row_put : (times signals : List ℕ) (n time : ℕ) → k < length times → n ≤ 32 → EntriesAre (current_at signals) n last
      → RowPut (record { time = time; values = list_below (current_at signals) n }) k (row_of n times values) (row_of n (set times k time) new)
  row_put times signals n time l few e =
      record {
        at = rw (get_or-set_same times k time 0 l, list_same (λ s. get_or new (32 * k + s) 0) (current_at signals) n (λ s h. new_at s (omega arith) ∙ e.at s h));
        before = λ j h. rw (get_or-set_other times k j time 0 (λ z. omega arith), list_same (λ s. get_or new (32 * j + s) 0) (λ s. get_or values (32 * j + s) 0) n (λ s m. new_before (32 * j + s) (omega arith)));
      }

-- a list from entry k on, taken apart
module _ (l : List Configuration) (k : ℕ) (x : Configuration) (xs : List Configuration) (e : drop k l ≡ x ∷ xs) where
  within : k < length l
  within = let h : length l - k ≡ suc (length xs) = sym (length-drop k l) ∙ ap length e in omega arith

  both : get_or l k empty ∷ drop (suc k) l ≡ x ∷ xs
  both = sym (drop-cons l k empty within) ∙ e

  entry_is : get_or l k empty ≡ x
  entry_is = ap (λ (m : List Configuration). get_or m 0 empty) both

  rest_is : drop (k + 1) l ≡ xs
  rest_is = rw (add-one k) (ap (λ (m : List Configuration). drop 1 m) both)

-- an order has four bytes, with an answer of 16
pub four_bytes : (os : List ℕ) (i : ℕ) → i < length os / 4 → 16 ≡ 16 * (length (take (4 * i + 4 - 4 * i) (drop (4 * i) os)) / 4)
four_bytes os i h = let e : length (take (4 * i + 4 - 4 * i) (drop (4 * i) os)) ≡ 4 = simp (length-take, length-drop) (omega arith) in rw e

settled_some : (M : Model) (os : List Order) (c : Configuration) → 0 < length (settled_in M os c)
unfolding settled_in
settled_some M [] c = omega arith
settled_some M (o ∷ os) c =
    by_test (λ (l : List Configuration). 0 < length l) (steps_time o (performed M o c)) _ _ (λ e. omega arith) (λ e. settled_some M os (performed M o c).after)

-- the values that the struct holds
struct_values : (M : Model) (c : Config) → Valid M c → list_below (current_at c.signals) c.nsignals ≡ (row_at M (view_of c)).values
unfolding row_at
struct_values M c v =
    rw (← (nsignals_is M c v.reachable))
    (list_same _ _ c.nsignals (λ s h. ap (λ j. get_or c.signals j 0) (sym (add-zero (32 * s))) ∙ sym (past_in c s 0 h (omega arith))))

-- a time step is told by the time
stays_told : (M : Model) (c d : Configuration) (b : Bool) → Moves M c b d → d.time ≡ c.time → b ≡ false
unfolding time_step
stays_told M c d b (stays e same) h = refl
stays_told M c d b (leaves t l quiet due) h = absurd (omega arith)

leaves_told : (M : Model) (c d : Configuration) (b : Bool) → Moves M c b d → (d.time ≡ c.time → ⊥) → b ≡ true
leaves_told M c d b (stays e same) h = absurd (h same)
leaves_told M c d b (leaves t l quiet due) h = refl

leaves_values : (M : Model) (c d : Configuration) (b : Bool) → Moves M c b d → (d.time ≡ c.time → ⊥) → Reachable M c → (row_at M d).values ≡ (row_at M c).values
leaves_values M c d b (stays e same) h r = absurd (h same)
leaves_values M c d b (leaves t l quiet due) h r = row_behind M c r t

view_time : (c : Config) → (view_of c).time ≡ c.time
unfolding view_of
view_time c = refl

-- the rows below k are those of the run, and row k is put
rows_next : (M : Model) (run : List Configuration) (k : ℕ) {old new : ℕ → Row} {r : Row} → ((j : ℕ) → j < k → old j ≡ row_at M (get_or run j empty))
    → RowPut r k old new → r ≡ row_at M (get_or run k empty) → (j : ℕ) → j < k + 1 → new j ≡ row_at M (get_or run j empty)
rows_next M run k {new = new} before q e =
    below_more (λ j. new j ≡ row_at M (get_or run j empty)) k (λ j h. q.before j h ∙ before j h) (q.at ∙ e)

-- before order i, with k rows kept
pub record Tracing (M : Model) (os : List ℕ) (c₀ : Configuration) (i : ℕ) (at : Config) (k : ℕ) (times values : List ℕ) : Type 0 where
  pub low : i ≤ length os / 4
  pub valid : Valid M at
  pub times_long : length times ≡ 2049
  pub values_long : length values ≡ 65568
  pub left : drop k (settled_in M (orders_of os) c₀) ≡ settled_in M (drop i (orders_of os)) (view_of at)
  pub done : (j : ℕ) → j < k → row_of (length M.signals) times values j ≡ row_at M (get_or (settled_in M (orders_of os) c₀) j empty)

pub tracing_none : (M : Model) (os : List ℕ) (at : Config) (times values : List ℕ) → Valid M at → length times ≡ 2049 → length values ≡ 65568
    → Tracing M os (view_of at) 0 at 0 times values
tracing_none M os at times values v t w =
    record { low = omega arith; valid = v; times_long = t; values_long = w; left = refl; done = λ j h. absurd (omega arith) }

module _ {M : Model} (fs : Facts M) {os : List ℕ} (short : length os ≤ 16384) {c₀ : Configuration} (r₀ : Reachable M c₀)
    {i k : ℕ} {at : Config} {times values : List ℕ} (t : Tracing M os c₀ i at k times values) where
  abbrev run : List Configuration
  run = settled_in M (orders_of os) c₀

  -- there is room for row k
  pub room : k < 2049
  room =
      let n : length (orders_of os) ≡ length os / 4 = unfold orders_of in list_length _ (length os / 4) in
      let h : length run - k ≡ length (settled_in M (drop i (orders_of os)) (view_of at)) = sym (length-drop k run) ∙ ap length t.left in
      omega (arith, settled_some M (drop i (orders_of os)) (view_of at), run_few M fs (orders_of os) c₀ r₀)

  -- the next order is played
  module _ (here : i < length os / 4) {r : Config} {answer : List ℕ}
      (p : PlayedTo M (take (4 * i + 4 - 4 * i) (drop (4 * i) os)) (view_of at) (view_of r) answer) (v : Valid M r) where
    abbrev order : Order
    order = order_of (take 4 (drop (4 * i) os))

    abbrev steps : Bool
    steps = steps_time order (performed M order (view_of at))

    after : (performed M order (view_of at)).after ≡ view_of r
    after =
        let e : 4 * i + 4 - 4 * i ≡ 4 = omega arith in
        let n : length (take 4 (drop (4 * i) os)) ≡ 4 = simp (length-take, length-drop) (omega arith) in
        sym (ap (λ (r : Played). r.end) (one_order M (take 4 (drop (4 * i) os)) (view_of at) n)) ∙ sym (rw e at p.end)

    moved : Moves M (view_of at) steps (view_of r)
    moved = rw after at (performed_moves M order (view_of at) t.valid.reachable)

    left_next : drop k run ≡ (steps ⇒ (view_of at ∷ settled_in M (drop (i + 1) (orders_of os)) (view_of r)) ∣ settled_in M (drop (i + 1) (orders_of os)) (view_of r))
    left_next = t.left ∙ rw (next_order_lem os i here) (unfold settled_in in rw after)

    -- the time stays
    pub tracing_stays : r.time ≡ at.time → Tracing M os c₀ (i + 1) r k times values
    tracing_stays e =
        record {
          low = omega arith;
          valid = v;
          times_long = t.times_long;
          values_long = t.values_long;
          left = left_next ∙ rw (stays_told M (view_of at) (view_of r) steps moved (view_time r ∙ e ∙ sym (view_time at)));
          done = t.done;
        }

    -- a time step leaves it: the row of the configuration before it is kept
    module _ (other : r.time ≡ at.time → ⊥) where
      later : (view_of r).time ≡ (view_of at).time → ⊥
      later e = other (sym (view_time r) ∙ e ∙ view_time at)

      told : drop k run ≡ view_of at ∷ settled_in M (drop (i + 1) (orders_of os)) (view_of r)
      told = left_next ∙ rw (leaves_told M (view_of at) (view_of r) steps moved later)

      row_of_lem : record { time = at.time; values = list_below (current_at r.signals) r.nsignals } ≡ row_at M (view_of at)
      row_of_lem =
          let e = struct_values M r v ∙ leaves_values M (view_of at) (view_of r) steps moved later t.valid.reachable in
          rw e (unfold row_at view_of in refl)

      pub tracing_leaves : {n : ℕ} {times' values' : List ℕ} → n ≡ r.nsignals → length times' ≡ 2049 → length values' ≡ 65568
          → RowPut (record { time = at.time; values = list_below (current_at r.signals) n }) k (row_of n times values) (row_of n times' values')
          → Tracing M os c₀ (i + 1) r (k + 1) times' values'
      tracing_leaves e f g q =
          let n = e ∙ nsignals_is M r v.reachable in
          record {
            low = omega arith;
            valid = v;
            times_long = f;
            values_long = g;
            left = rest_is run k _ _ told;
            done = rows_next M run k t.done (rw n at q) (rw (← n, e) (row_of_lem ∙ ap (row_at M) (sym (entry_is run k _ _ told))));
          }

  -- no order is left: the row of the last time is kept
  module _ (none : length os / 4 ≤ i) where
    ended : drop k run ≡ view_of at ∷ []
    ended = t.left ∙ rw (no_orders os i none) (unfold settled_in in refl)

    pub traced : {n : ℕ} {times' values' : List ℕ} → n ≡ at.nsignals
        → RowPut (record { time = at.time; values = list_below (current_at at.signals) n }) k (row_of n times values) (row_of n times' values')
        → Traced M run times' values' (k + 1)
    traced e q =
        let n = e ∙ nsignals_is M at t.valid.reachable in
        let row : record { time = at.time; values = list_below (current_at at.signals) at.nsignals } ≡ row_at M (view_of at) = rw (struct_values M at t.valid) (unfold row_at view_of in refl) in
        let have = rows_next M run k t.done (rw n at q) (rw (← n, e) (row ∙ ap (row_at M) (sym (entry_is run k _ _ ended)))) in
        let all : length run ≡ k + 1 = let h : length run - k ≡ 1 = sym (length-drop k run) ∙ ap length ended in omega arith in
        record {
          few = omega (arith, room);
          rows = list_is _ (map (row_at M) run) (row_at M empty) (k + 1) (length-map run (row_at M) ∙ all) (λ j h. have j h ∙ sym (map_at (row_at M) run j empty (row_at M empty) (omega (arith, all))));
        }
