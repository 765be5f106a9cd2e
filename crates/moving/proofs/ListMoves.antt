-- The law of moving over: the moved list under the orders of now does what the list did. Assumes nothing.
use mathlib.Core.Path.{◌≡◌, refl, ◌∙◌}
use mathlib.Core.Bool.{true, false, not, ◌||◌}
use mathlib.Core.List.{List, [], ◌∷◌}
use native.Mathlib.Omega.{arith}
use borrow.Author.Tests.{eqb-true}
use lib.Dec.{eqb}
use Rattle.base.specs.Below.{All}
use Rattle.base.proofs.Below.{or_left, or_right}
use Rattle.base.proofs.Cases.{by_test, either_way}
use Rattle.blocks.specs.Records.{Model}
use Rattle.rules.specs.Configuration.{Configuration, first}
use Rattle.rules.specs.Orders.{refused}
use Rattle.session.specs.Lists.{Order, orders_of, is_known, performed, played_by, played}
use Rattle.session.proofs.Answers.{Narrow, Small, orders_small, orders_of_bytes}
use Rattle.moving.specs.Before.{performed_before, played_before}
use Rattle.moving.specs.Moving.{same_answer, with_kind, moved_order, moved_over, moved_bytes, is_new, MovesOver}
use Rattle.moving.proofs.OrderTwo.{order_is, same_delta, same_time}

module _ (M : Model) where
  unknown : (o : Order) (c : Configuration) → is_known o ≡ false → performed M o c ≡ refused 11 c
  unfolding performed
  unknown o c u = rw u

  -- an order of another kind than 2 is what it was, unless it is new
  stays : (o : Order) (c : Configuration) → eqb o.kind 2 ≡ false → is_new o ≡ false → performed M o c ≡ performed_before M o c
  unfolding performed_before
  stays o c k old =
      either_way (eqb o.kind 6 || eqb o.kind 7)
      (λ n.
      unknown o c (rw n at old)
      ∙ either_way (eqb o.kind 6) (λ six. rw (k, six)) (λ six. let seven : eqb o.kind 7 ≡ true = rw six at n in rw (k, six, seven)))
      (λ n. rw (k, or_left (eqb o.kind 6) (eqb o.kind 7) n, or_right (eqb o.kind 6) (eqb o.kind 7) n))

  moved_does : (o : Order) (c : Configuration) → is_new o ≡ false → performed M (moved_order M o c) c ≡ performed_before M o c
  unfolding moved_order
  moved_does o c old =
      either_way (eqb o.kind 2)
      (λ k.
      let is = order_is M c o (eqb-true _ _ k) in
      rw k
      (by_test (λ (n : Order). performed M n c ≡ performed_before M o c) (same_answer (performed M (with_kind 6 o) c) (performed_before M o c)) _ _
      (same_delta is) (same_time is)))
      (λ k. rw k (stays o c k old))

  list_does : (os : List Order) (c : Configuration) → All (λ o. is_new o ≡ false) os → played M (moved_over M os c) c ≡ played_before M os c
  unfolding moved_over played_by
  list_does [] c old = refl
  list_does (o ∷ os) c old = rw (moved_does o c old.0, list_does os (performed_before M o c).after old.1)

  -- fields stay as narrow as they are
  moved_narrow : (o : Order) (c : Configuration) → Narrow o → Narrow (moved_order M o c)
  unfolding moved_order
  moved_narrow o c n =
      by_test Narrow (not (eqb o.kind 2)) _ _ (λ e. n)
      (λ e. by_test Narrow (same_answer (performed M (with_kind 6 o) c) (performed_before M o c)) _ _
      (λ e. record { kind = omega arith; argument = n.argument; count = n.count })
      (λ e. record { kind = omega arith; argument = n.argument; count = n.count }))

  list_narrow : (os : List Order) (c : Configuration) → Small os → Small (moved_over M os c)
  unfolding moved_over
  list_narrow [] c n = tt
  list_narrow (o ∷ os) c n = (moved_narrow o c n.0, list_narrow os (performed_before M o c).after n.1)

pub moves_over : MovesOver
unfolding moved_bytes
moves_over M orders old =
    rw (orders_of_bytes (moved_over M (orders_of orders.bytes) (first M)) (list_narrow M _ (first M) (orders_small orders)))
    (list_does M (orders_of orders.bytes) (first M) old)
