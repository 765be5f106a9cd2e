-- Laws of lists of orders: what follows a refused order, and a session of no orders. Assumes nothing.
use mathlib.Core.Path.{◌≡◌, refl, sym, ap, ◌∙◌}
use mathlib.Core.Bool.{true, not}
use mathlib.Core.List.{List, [], ◌∷◌}
use Prim.Native.Nat.{ℕ}
use borrow.Author.Tests.{eq-eqb}
use lib.Dec.{eqb}
use Rattle.base.specs.Below.{list_below}
use Rattle.base.proofs.Cases.{by_test}
use Rattle.blocks.specs.Records.{Model, model_of}
use Rattle.model.specs.Rules.{refusal_of}
use Rattle.rules.specs.Configuration.{Configuration, first}
use Rattle.rules.specs.Orders.{Outcome, refused, settled}
use Rattle.rules.proofs.Outcomes.{Pick, pick_refused, pick_done_lem, pick_is, Delta, delta_refused, delta_done, delta_is, Time, time_refused, time_done, time_is, PickSet, set_refused, set_done_lem, pick_set_is, Read, read_refused, read_done, read_is}
use Rattle.session.specs.Lists.{Order, is_known, performed, answered, orders_of, played_by, played}
use Rattle.session.specs.Sessions.{orders_ok, buffer_ok, number_of, session_of}
use Rattle.session.specs.ListLaws.{ListLaws}
use Rattle.session.proofs.SessionLaws.{model_accepted, neither}

-- an order that is refused says so, and hands back the configuration that it took
module _ (M : Model) (c : Configuration) where
  abbrev pub Kept : Outcome → Type 0
  Kept r = (r.refusal ≡ 0 → ⊥) → r ≡ refused r.refusal c

  pick_kept : (p : ℕ) {r : Outcome} → Pick M c p r → Kept r
  pick_kept p (pick_refused n h) = λ z. refl
  pick_kept p (pick_done_lem there ready) = λ z. absurd (z refl)

  pub delta_kept : {r : Outcome} → Delta M c r → Kept r
  delta_kept (delta_refused n h) = λ z. refl
  delta_kept (delta_done quiet running due few) = λ z. absurd (z refl)

  time_kept : {r : Outcome} → Time M c r → Kept r
  time_kept (time_refused n h) = λ z. refl
  time_kept (time_done t quiet due at low) = λ z. absurd (z refl)

  settle_kept : (n : ℕ) → Kept (settled M n c)
  unfolding settled
  settle_kept n = λ z. absurd (z refl)

  set_kept : (set : ℕ) {r : Outcome} → PickSet M c set r → Kept r
  set_kept set (set_refused n h) = λ z. refl
  set_kept set (set_done_lem all) = λ z. absurd (z refl)

  read_kept : (s : ℕ) {r : Outcome} → Read M c s r → Kept r
  read_kept s (read_refused n h) = λ z. refl
  read_kept s (read_done there) = λ z. absurd (z refl)

  refused_kept : (o : Order) → Kept (performed M o c)
  unfolding performed
  refused_kept o =
      by_test Kept (not (is_known o)) _ _ (λ e z. refl)
      (λ e. by_test Kept (eqb o.kind 1) _ _ (λ k. pick_kept o.argument (pick_is M c o.argument))
      (λ e. by_test Kept (eqb o.kind 3) _ _ (λ k. settle_kept o.count)
      (λ e. by_test Kept (eqb o.kind 5) _ _ (λ k. set_kept o.count (pick_set_is M c o.count))
      (λ e. by_test Kept (eqb o.kind 6) _ _ (λ k. delta_kept (delta_is M c))
      (λ e. by_test Kept (eqb o.kind 7) _ _ (λ k. time_kept (time_is M c))
      (λ e. read_kept o.argument (read_is M c o.argument)))))))

  -- "After a refused order the next is played all the same", from the configuration that the refused one took
  after_refused : (o : Order) (os : List Order) → ((performed M o c).refusal ≡ 0 → ⊥)
      → played M (o ∷ os) c ≡ answered (refused (performed M o c).refusal c) (played M os c)
  unfolding played_by
  after_refused o os h = let e = refused_kept o h in ap (λ (r : Outcome). answered r (played M os r.after)) e

-- "No orders: number 0, first configuration."
no_orders_session : (m : List ℕ) → refusal_of m ≡ 0 → session_of m [] [] ≡ record { number = 0; end = first (model_of m); buffer = [] }
unfolding session_of orders_ok buffer_ok orders_of list_below played_by
no_orders_session m h =
    let k : eqb (number_of m [] []) 0 ≡ true = eq-eqb _ _ (model_accepted m [] [] h ∙ sym (neither [] [] refl refl)) in
    rw k

pub list_laws : ListLaws
list_laws =
    record {
      refused_kept = λ M o c. refused_kept M c o;
      after_refused = λ M o os c. after_refused M c o os;
      no_orders = no_orders_session;
    }
