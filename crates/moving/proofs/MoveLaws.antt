-- One order moved, and a list of them in the buffer, kept order by order. Assumes nothing.
use mathlib.Core.Path.{◌≡◌, refl, sym, ap, ◌∙◌}
use mathlib.Core.Bool.{Bool, true, false, true≢false, not, ◌||◌}
use mathlib.Core.List.{List, [], ◌∷◌, ◌++◌, append_assoc, append-nil}
use Prim.Native.Nat.{ℕ, ◌+◌, ◌*◌, ◌-◌, ◌/◌, ◌%◌, ◌^◌, ◌≤◌, ◌<◌}
use native.Mathlib.Omega.{arith}
use borrow.Author.Tests.{eq-eqb, ne_eqb}
use borrow.Rule.Slice.PartMut.{put_mid}
use lib.Dec.{eqb}
use lib.ListN.{length, take, drop}
use Rattle.base.specs.Bytes.{byte_at}
use Rattle.base.proofs.Below.{or_left, or_right}
use Rattle.base.proofs.Cases.{by_test, either_way}
use Rattle.blocks.specs.Records.{Model}
use Rattle.rules.specs.Configuration.{Configuration}
use Rattle.cycle.specs.View.{Valid, view_of}
use Rattle.cycle.specs.declared.config.Config.{Config}
use Rattle.session.specs.Lists.{Order, Played, order_of, orders_of, order_bytes, performed, answer_of}
use Rattle.session.specs.Sessions.{bytes_of, PlayedTo}
use Rattle.session.proofs.PlayLaws.{all_written, written, part_room, no_orders, next_order_lem, order_read, one_order}
use Rattle.moving.specs.Before.{performed_before}
use Rattle.moving.specs.Moving.{same_answer, with_kind, moved_order, moved_over, MovedAt}
use Rattle.moving.specs.declared.Moved.{Moved}
use Rattle.moving.proofs.OrderTwo.{order_is, told_delta, told_time}

-- one order, played by its four bytes
module _ {M : Model} {k a l h : ℕ} {v e : Configuration} {b : List ℕ} (p : PlayedTo M (k ∷ a ∷ l ∷ h ∷ []) v e b) where
  one_end : e ≡ (performed M (order_of (k ∷ a ∷ l ∷ h ∷ [])) v).after
  one_end = p.end ∙ ap (λ (r : Played). r.end) (one_order M _ v refl)

  one_answer : b ≡ answer_of (performed M (order_of (k ∷ a ∷ l ∷ h ∷ [])) v)
  one_answer = p.answers ∙ ap (λ (r : Played). bytes_of r.answers) (one_order M _ v refl) ∙ append-nil _

module _ (M : Model) (kind a l h : ℕ) (c : Config) where
  abbrev o : Order
  o = order_of (kind ∷ a ∷ l ∷ h ∷ [])

  -- an order 2 whose delta step is not refused with 22
  pub moved_delta : kind ≡ 2 → (r : Config) {b : List ℕ} → PlayedTo M (6 ∷ a ∷ l ∷ h ∷ []) (view_of c) (view_of r) b → Valid M r → (byte_at b 0 ≡ 22 → ⊥)
      → MovedAt M o c (record { kind = 6; config = r })
  unfolding moved_order order_of
  moved_delta is r {b} p v n =
      let t = told_delta (order_is M (view_of c) o is) (λ e. n (ap (λ (x : List ℕ). byte_at x 0) (one_answer p) ∙ e)) in
      record { kind = rw (eq-eqb kind 2 is, t.0); end = one_end p ∙ rw t.1; valid = v }

  -- one whose delta step is: the time step is played after it
  pub moved_time : kind ≡ 2 → (d r : Config) {b b' : List ℕ} → PlayedTo M (6 ∷ a ∷ l ∷ h ∷ []) (view_of c) (view_of d) b → byte_at b 0 ≡ 22
      → PlayedTo M (7 ∷ a ∷ l ∷ h ∷ []) (view_of d) (view_of r) b' → Valid M r → MovedAt M o c (record { kind = 7; config = r })
  unfolding moved_order order_of
  moved_time is d r {b} p e q v =
      let t = told_time (order_is M (view_of c) o is) (sym (ap (λ (x : List ℕ). byte_at x 0) (one_answer p)) ∙ e) in
      let same : view_of d ≡ view_of c = one_end p ∙ rw t.1 in
      record { kind = rw (eq-eqb kind 2 is, t.0); end = one_end q ∙ rw (same, t.2); valid = v }

  -- another order
  stays : (kind ≡ 2 → ⊥) → kind ≡ (moved_order M o (view_of c)).kind
  unfolding moved_order order_of
  stays other = rw (ne_eqb kind 2 other)

  abbrev new : Bool
  new = eqb kind 6 || eqb kind 7

  new_other : new ≡ true → kind ≡ 2 → ⊥
  new_other n e = true≢false (sym n ∙ rw e)

  pub moved_new : new ≡ true → Valid M c → MovedAt M o c (record { kind = kind; config = c })
  unfolding performed_before order_of
  moved_new n v =
      let no2 = ne_eqb kind 2 (new_other n) in
      record {
        kind = stays (new_other n);
        end = either_way (eqb kind 6) (λ k. rw (no2, k)) (λ k. let m : eqb kind 7 ≡ true = rw k at n in rw (no2, k, m));
        valid = v;
      }

  pub moved_other : (kind ≡ 2 → ⊥) → new ≡ false → (r : Config) {b : List ℕ} → PlayedTo M (kind ∷ a ∷ l ∷ h ∷ []) (view_of c) (view_of r) b → Valid M r
      → MovedAt M o c (record { kind = kind; config = r })
  unfolding performed_before order_of
  moved_other other n r p v =
      record { kind = stays other; end = one_end p ∙ rw (ne_eqb kind 2 other, or_left (eqb kind 6) (eqb kind 7) n, or_right (eqb kind 6) (eqb kind 7) n); valid = v }

kept : (M : Model) (o : Order) (c : Configuration) → ((moved_order M o c).argument ≡ o.argument) × ((moved_order M o c).count ≡ o.count)
unfolding moved_order
kept M o c =
    let Kept : Order → Type 0 = λ n. (n.argument ≡ o.argument) × (n.count ≡ o.count) in
    by_test Kept (not (eqb o.kind 2)) _ _ (λ e. (refl, refl))
    (λ e. by_test Kept (same_answer (performed M (with_kind 6 o) c) (performed_before M o c)) _ _ (λ e. (refl, refl)) (λ e. (refl, refl)))

-- the list of before is at order i: what is left of it, moved from `at`, comes behind the orders written
pub record Moving (M : Model) (os : List ℕ) (c₀ : Configuration) (i : ℕ) (at : Config) (moved : List ℕ) : Type 0 where
  pub low : i ≤ length os / 4
  pub valid : Valid M at
  pub room : length moved ≡ 4 * (length os / 4)
  pub bytes : take (4 * i) moved ++ order_bytes (moved_over M (drop i (orders_of os)) (view_of at)) ≡ order_bytes (moved_over M (orders_of os) c₀)

module _ {M : Model} {os : List ℕ} {c₀ : Configuration} {i : ℕ} {at : Config} {moved : List ℕ} (t : Moving M os c₀ i at moved) where
  -- the next order is moved, and written into its own part of the buffer
  module _ (here : i < length os / 4) {kind a l h : ℕ} (k : kind ≡ byte_at os (4 * i)) (e : a ≡ byte_at os (4 * i + 1)) (f : l ≡ byte_at os (4 * i + 2)) (g : h ≡ byte_at os (4 * i + 3))
      (small : l < 256) (high : h < 256) {r : Moved} (m : MovedAt M (order_of (kind ∷ a ∷ l ∷ h ∷ [])) at r) where
    abbrev taken : Order
    taken = order_of (kind ∷ a ∷ l ∷ h ∷ [])

    left : drop i (orders_of os) ≡ taken ∷ drop (i + 1) (orders_of os)
    unfolding order_of
    left = let z : 4 * i + 2 + 1 ≡ 4 * i + 3 = omega arith in next_order_lem os i here ∙ rw (order_read os i here, z, k, e, f, g)

    -- its bytes: all but the kind stay
    moved_bytes_lem : (rest : List Order) → order_bytes (moved_order M taken (view_of at) ∷ rest) ≡ (r.kind ∷ a ∷ l ∷ h ∷ []) ++ order_bytes rest
    unfolding order_of
    moved_bytes_lem rest =
        let low : (l + 256 * h) / 256 ^ 0 % 256 ≡ l = omega arith in
        let upper : (l + 256 * h) / 256 ^ 1 % 256 ≡ h = omega arith in
        let same = kept M taken (view_of at) in
        rw (same.0, same.1, low, upper, m.kind)

    module _ {last : List ℕ} (q : last ≡ r.kind ∷ a ∷ l ∷ h ∷ []) where
      bytes_next : (rest : List ℕ) → take (4 * (i + 1)) (take (4 * i) moved ++ (last ++ rest)) ++ order_bytes (moved_over M (drop (i + 1) (orders_of os)) (view_of r.config))
          ≡ take (4 * i) moved ++ order_bytes (moved_over M (drop i (orders_of os)) (view_of at))
      unfolding moved_over
      bytes_next rest =
          let long : length last ≡ 4 = ap length q in
          rw (written moved last rest (4 * i) (4 * (i + 1)) (omega arith) (omega (arith, t.room)), append_assoc, left, moved_bytes_lem, q, m.end)

      pub moving_next : Moving M os c₀ (i + 1) r.config (put_mid (4 * i) (4 * i + 4 - 4 * i) moved last)
      moving_next =
          let long : length last ≡ 4 = ap length q in
          record {
            low = omega arith;
            valid = m.valid;
            room = part_room moved last (4 * i) (4 * i + 4) (omega arith) (omega (arith, t.room)) ∙ t.room;
            bytes = bytes_next _ ∙ t.bytes;
          }

  -- no order is left
  pub moving_all : length os / 4 ≤ i → moved ≡ order_bytes (moved_over M (orders_of os) c₀)
  unfolding moved_over
  moving_all none = all_written _ _ (4 * i) (omega (arith, t.room)) (rw (no_orders os i none) at t.bytes)
