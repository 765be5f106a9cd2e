-- Laws of a list of orders played from its bytes: the next order, its answer written behind those before it, and the end.
-- Assumes nothing.
use mathlib.Core.Path.{◌≡◌, sym, ap, ◌∙◌}
use mathlib.Core.Bool.{Bool, true, false}
use mathlib.Core.Logic.{◌⊎◌, inl, inr, ⊎_elim}
use Rattle.std.specs.Prelude.{Option, Some, None}
use mathlib.Core.List.{List, [], ◌∷◌, ◌++◌, append_assoc, append-nil}
use Prim.Native.Nat.{ℕ, ◌+◌, ◌*◌, ◌-◌, ◌/◌, ◌≤◌, ◌<◌}
use native.Mathlib.Numerals.{add-one}
use native.Mathlib.Omega.{arith}
use borrow.Author.Tests.{ne_eqb}
use borrow.Rule.Slice.PartMut.{put_mid, mid_len, same_len_mid}
use lib.Dec.{eqb}
use lib.ListN.{length, take, drop, length-append, length-take, drop_of_length-le}
use lib.Seq.{take_all, take_at, drop-cons, get_or-take, get_or-drop}
use Rattle.base.specs.Below.{list_below}
use Rattle.base.specs.Bytes.{byte_at, word_at}
use Rattle.base.specs.Cases.{◌∣◌, ◌⇒◌}
use Rattle.base.proofs.Below.{list_length, list_at}
use Rattle.blocks.specs.Records.{Model}
use Rattle.rules.specs.Configuration.{Configuration}
use Rattle.rules.specs.Orders.{refused, picked, settled, picked_set, delta_stepped, time_stepped, read_of}
use Rattle.cycle.specs.View.{Valid, Answers, Keeps, ReadTo, view_of, outcome_of, picked_by, refused_answer}
use Rattle.cycle.specs.declared.config.Config.{Config}
use Rattle.cycle.specs.declared.orders.Answer.{Answer}
use Rattle.cycle.specs.declared.orders.Answered.{Answered}
use Rattle.cycle.specs.declared.picks.Picks.{Picks}
use Rattle.cycle.specs.declared.picks.Picks.TheVariants.{One, Settle, Set}
use Rattle.cycle.proofs.OrderLaws.{refused_is}
use Rattle.cycle.proofs.ViewLaws.{nsignals_is}
use Rattle.session.specs.Actions.{done_by}
use Rattle.session.specs.declared.play.Action.{Action}
use Rattle.session.specs.declared.play.Action.TheVariants.{Read}
use Rattle.session.specs.Lists.{order, order_of, orders_of, performed, answer_bytes, answer_of, played_by, played}
use Rattle.session.specs.Sessions.{bytes_of}

-- all is written
pub all_written : (a t : List ℕ) (n : ℕ) → length a ≤ n → take n a ++ [] ≡ t → a ≡ t
all_written a t n h e = rw (append-nil, take_all n a h) at e

-- the bytes from n up to k are written, with rest behind them
pub written : (a e rest : List ℕ) (n k : ℕ) → k ≡ n + length e → n ≤ length a → take k (take n a ++ (e ++ rest)) ≡ take n a ++ e
written a e rest n k h l =
    let long : length (take n a ++ e) ≡ k = simp (length-append, length-take) (omega arith) in
    rw (← append_assoc) (take_at (take n a ++ e) rest k long)

-- and the buffer is as long as it was
pub part_room : (a e : List ℕ) (n k : ℕ) → k ≡ n + length e → k ≤ length a → length (put_mid n (k - n) a e) ≡ length a
part_room a e n k h l = let m = mid_len n k a l in same_len_mid n (k - n) a e (omega arith)

module _ (os : List ℕ) (i : ℕ) where
  -- no order is left
  pub no_orders : length os / 4 ≤ i → drop i (orders_of os) ≡ []
  unfolding orders_of
  no_orders h = drop_of_length-le _ {i = i} (rw list_length h)

  module _ (h : i < length os / 4) where
    -- the next order stands in front of those that are left
    pub next_order_lem : drop i (orders_of os) ≡ order_of (take 4 (drop (4 * i) os)) ∷ drop (i + 1) (orders_of os)
    unfolding orders_of
    next_order_lem =
        let k : i < length (list_below (λ n. order_of (take 4 (drop (4 * n) os))) (length os / 4)) = rw list_length h in
        rw (add-one, drop-cons _ i (order_of []) k, list_at (λ n. order_of (take 4 (drop (4 * n) os))) (order_of []) (length os / 4) i h)

    byte_read : (j : ℕ) → j < 4 → byte_at (take 4 (drop (4 * i) os)) j ≡ byte_at os (4 * i + j)
    byte_read j l = rw (get_or-take, get_or-drop)

    -- the fields, read from the bytes
    pub order_read : order_of (take 4 (drop (4 * i) os)) ≡ order (byte_at os (4 * i)) (byte_at os (4 * i + 1)) (word_at os (4 * i + 2))
    unfolding order_of
    order_read =
        let e0 = byte_read 0 (omega arith) in
        let e1 = byte_read 1 (omega arith) in
        let e2 = byte_read 2 (omega arith) in
        let e3 = byte_read 3 (omega arith) in
        let z : 4 * i + 0 ≡ 4 * i = omega arith in
        let t : 4 * i + 2 + 1 ≡ 4 * i + 3 = omega arith in
        rw (e0, e1, e2, e3, z, t)

-- one order, played from its four bytes
pub one_order : (M : Model) (b : List ℕ) (c : Configuration) → length b ≡ 4
    → played M (orders_of b) c ≡ record { answers = answer_of (performed M (order_of b) c) ∷ []; end = (performed M (order_of b) c).after }
unfolding orders_of played_by list_below
one_order M b c h = let e : length b / 4 ≡ 1 = omega arith in rw (e, take_all 4 b (omega arith))

-- before order i: what is left of the list, played from `at`, ends as the whole list does from c₀, and its answers come behind
-- those written
pub record Playing (M : Model) (os : List ℕ) (c₀ : Configuration) (i : ℕ) (at : Config) (answers : List ℕ) : Type 0 where
  pub low : i ≤ length os / 4
  pub valid : Valid M at
  pub room : length answers ≡ 16 * (length os / 4)
  pub end : (played M (drop i (orders_of os)) (view_of at)).end ≡ (played M (orders_of os) c₀).end
  pub bytes : take (16 * i) answers ++ bytes_of (played M (drop i (orders_of os)) (view_of at)).answers ≡ bytes_of (played M (orders_of os) c₀).answers

-- order i is read, and taken for an action
pub record Reading (M : Model) (os : List ℕ) (c₀ : Configuration) (i : ℕ) (at : Config) (answers : List ℕ) (kind argument count : ℕ) (a : Option Action) : Type 0 where
  pub playing : Playing M os c₀ i at answers
  pub here : i < length os / 4
  pub kind_read : kind ≡ byte_at os (4 * i)
  pub argument_read : argument ≡ byte_at os (4 * i + 1)
  pub count_read : count ≡ word_at os (4 * i + 2)
  pub action : (M : Model) (c : Configuration) → performed M (order kind argument count) c ≡ done_by M a c

module _ {M : Model} {os : List ℕ} {c₀ : Configuration} {i : ℕ} {at : Config} {answers : List ℕ} {kind argument count : ℕ} {b : Option Action} (t : Reading M os c₀ i at answers kind argument count b) where
  -- what each action says of the answer and the configuration that it leaves
  abbrev Gives : Answer → Config → Type 0
  Gives answer end = Answers M (record { answer = answer; config = end }) (performed M (order kind argument count) (view_of at))

  pub gives : (d : Action) → b ≡ Some d → (r : Answered) → Answers M r (done_by M (Some d) (view_of at)) → Gives r.answer r.config
  gives d e r a = rw (t.action M (view_of at), e) a

  pub refused_gives : b ≡ None → (a : Answer) → a ≡ refused_answer 11 → Gives a at
  refused_gives k a e = rw (t.action M (view_of at), k) (record { is = rw e (refused_is at 11); valid = t.playing.valid })

  pub read_gives : (s : ℕ) → b ≡ Some (Read s) → (r : Answered) → ReadTo s at r → Keeps at r → Gives r.answer r.config
  read_gives s k r a f = rw (t.action M (view_of at), k) (record { is = a M (sym (nsignals_is M at t.playing.valid.reachable)); valid = f M t.playing.valid })

  -- it is done: r is what it gave, and its answer is written into its own part of the buffer
  module _ {r : Answered} (a : Answers M r (performed M (order kind argument count) (view_of at))) where
    left : drop i (orders_of os) ≡ order kind argument count ∷ drop (i + 1) (orders_of os)
    left = next_order_lem os i t.here ∙ rw (order_read os i t.here, t.kind_read, t.argument_read, t.count_read)

    end_next : (played M (drop (i + 1) (orders_of os)) (view_of r.config)).end ≡ (played M (drop i (orders_of os)) (view_of at)).end
    unfolding played_by outcome_of
    end_next = rw (left, ← a.is)

    module _ {last : List ℕ} (q : last ≡ answer_bytes r.answer.refusal r.answer.byte r.answer.picks r.answer.value r.config.time) where
      bytes_next : (rest : List ℕ) → take (16 * (i + 1)) (take (16 * i) answers ++ (last ++ rest)) ++ bytes_of (played M (drop (i + 1) (orders_of os)) (view_of r.config)).answers
          ≡ take (16 * i) answers ++ bytes_of (played M (drop i (orders_of os)) (view_of at)).answers
      unfolding played_by outcome_of answer_of view_of
      bytes_next rest =
          let long : length last ≡ 16 = ap length q in
          rw (written answers last rest (16 * i) (16 * (i + 1)) (omega arith) (omega (arith, t.playing.room, t.here)), append_assoc, left, ← a.is, q)

      pub playing_next : Playing M os c₀ (i + 1) r.config (put_mid (16 * i) (16 * i + 16 - 16 * i) answers last)
      playing_next =
          let long : length last ≡ 16 = ap length q in
          record {
            low = omega (arith, t.here);
            valid = a.valid;
            room = part_room answers last (16 * i) (16 * i + 16) (omega arith) (omega (arith, t.playing.room, t.here)) ∙ t.playing.room;
            end = end_next ∙ t.playing.end;
            bytes = bytes_next _ ∙ t.playing.bytes;
          }
