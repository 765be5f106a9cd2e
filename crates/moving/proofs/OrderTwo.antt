-- What an order 2 of before becomes: a delta step where that one gives its answer, else a time step. Assumes nothing.
use mathlib.Core.Path.{◌≡◌, refl, sym, ◌∙◌}
use mathlib.Core.Bool.{true, false, true≢false, ◌&&◌}
use mathlib.Core.Option.{Option, none, some}
use Prim.Native.Nat.{ℕ}
use native.Mathlib.Omega.{arith}
use borrow.Author.Tests.{eq-eqb, ne_eqb}
use lib.Dec.{eqb, leb, ltb}
use lib.ListN.{length}
use Rattle.base.specs.Below.{any_below}
use Rattle.base.specs.Bytes.{byte_at}
use Rattle.base.proofs.Below.{all_of, all_fails}
use Rattle.base.proofs.Cases.{by_test, either_way}
use Rattle.blocks.specs.Records.{Model}
use Rattle.rules.specs.Configuration.{Configuration, delta_limit, last_time}
use Rattle.rules.specs.Orders.{Outcome, refused, is_ready, is_stopped, due_now, due_times, earliest, delta_order, time_order, delta_stepped, time_stepped}
use Rattle.session.specs.Lists.{Order, is_known, performed, answer_of}
use Rattle.moving.specs.Before.{advanced, performed_before}
use Rattle.moving.specs.Moving.{same_answer, with_kind}

-- an answer does not begin with 22
abbrev Other : Outcome → Type 0
Other r = byte_at (answer_of r) 0 ≡ 22 → ⊥

-- what an order 2 is at c, d being the delta step's outcome, t the time step's and r its own: the delta step's, or the time step's where
-- nothing is due now
pub data Is (c : Configuration) (d t r : Outcome) : Type 0 where
  delta : d ≡ r → Other d → Is c d t r
  time : d ≡ refused 22 c → t ≡ r → Other r → Is c d t r

module _ (M : Model) (c : Configuration) where
  delta_order_lem : Other (delta_order M c)
  unfolding answer_of
  delta_order_lem = by_test Other (leb delta_limit c.deltas) _ _ (λ e z. omega arith) (λ e z. omega arith)

  time_order_lem : (o : Option ℕ) → Other (time_order o c)
  unfolding answer_of
  time_order_lem none = λ z. omega arith
  time_order_lem (some t) = by_test Other (ltb last_time t) _ _ (λ e z. omega arith) (λ e z. omega arith)

  advance_is : Is c (delta_stepped M c) (time_stepped M c) (advanced M c)
  unfolding delta_stepped time_stepped advanced answer_of
  advance_is =
      either_way (any_below (λ p. is_ready p c) (length M.processes)) (λ q. rw q (delta refl (λ z. omega arith)))
      (λ q. either_way (any_below (λ p. is_stopped p c) (length M.processes)) (λ s. rw (q, s) (delta refl (λ z. omega arith)))
      (λ s. either_way (due_now M c) (λ d. rw (q, s, d) (delta refl delta_order_lem))
      (λ d. rw (q, s, d) (time refl refl (time_order_lem (earliest (due_times M c)))))))

  -- with an unused byte set all three are refused with 11
  module _ (o : Order) (k : o.kind ≡ 2) where
    pub order_is : Is c (performed M (with_kind 6 o) c) (performed M (with_kind 7 o) c) (performed_before M o c)
    unfolding performed performed_before is_known answer_of
    order_is = either_way (eqb o.argument 0 && eqb o.count 0) (λ p. rw (k, p) advance_is) (λ p. rw (k, p) (delta refl (λ z. omega arith)))

-- answers are alike where outcomes are
alike : {d r : Outcome} → d ≡ r → same_answer d r ≡ true
unfolding same_answer
alike {d} {r} e = rw e (all_of _ 16 (λ i l. eq-eqb (byte_at (answer_of r) i) (byte_at (answer_of r) i) refl))

-- and are not where one begins with 22
unlike : (d r : Outcome) → byte_at (answer_of d) 0 ≡ 22 → Other r → same_answer d r ≡ false
unfolding same_answer
unlike d r e n = all_fails _ 16 0 (omega arith) (ne_eqb _ _ (λ z. n (sym z ∙ e)))

refused_first : (c : Configuration) {d : Outcome} → d ≡ refused 22 c → byte_at (answer_of d) 0 ≡ 22
unfolding answer_of
refused_first c e = rw e

module _ {c : Configuration} {d t r : Outcome} where
  -- the kind by the answers is the one that does the same
  pub same_delta : Is c d t r → same_answer d r ≡ true → d ≡ r
  same_delta (delta e n) s = e
  same_delta (time e f n) s = absurd (true≢false (sym s ∙ unlike d r (refused_first c e) n))

  pub same_time : Is c d t r → same_answer d r ≡ false → t ≡ r
  same_time (delta e n) s = absurd (true≢false (sym (alike e) ∙ s))
  same_time (time e f n) s = f

  -- and is told by the delta step's answer
  pub told_delta : Is c d t r → Other d → (same_answer d r ≡ true) × (d ≡ r)
  told_delta (delta e n) o = (alike e, e)
  told_delta (time e f n) o = absurd (o (refused_first c e))

  pub told_time : Is c d t r → byte_at (answer_of d) 0 ≡ 22 → (same_answer d r ≡ false) × (d ≡ refused 22 c) × (t ≡ r)
  told_time (delta e n) o = absurd (n o)
  told_time (time e f n) o = (unlike d r (refused_first c e) n, e, f)
