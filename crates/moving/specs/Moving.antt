-- Stored order lists move over (document 02, item 9): what becomes of a list, of its bytes and of its answers.
use Rattle.std.specs.Prelude.{◌≡◌, Bool, false, not, ◌&&◌, ◌||◌, List, [], ◌∷◌, ◌++◌, ℕ, eqb, length}
use Rattle.base.specs.Below.{all_below, All}
use Rattle.base.specs.Bytes.{byte_at}
use Rattle.base.specs.Cases.{◌∣◌, ◌⇒◌}
use Rattle.base.specs.Rules.{◌needs◌, first_failing}
use Rattle.blocks.specs.Records.{Model, model_of}
use Rattle.model.specs.Rules.{rules_of}
use Rattle.rules.specs.Configuration.{Configuration, first}
use Rattle.rules.specs.Orders.{Outcome}
use Rattle.cycle.specs.View.{Valid, view_of}
use Rattle.cycle.specs.declared.config.Config.{Config}
use Rattle.session.specs.Demand3.{Bytes}
use Rattle.session.specs.Lists.{Order, order, orders_of, order_bytes, is_known, performed, answer_of, played}
use Rattle.session.specs.Sessions.{orders_ok}
use Rattle.moving.specs.Before.{performed_before, played_before}
use Rattle.moving.specs.declared.Moved.{Moved}

-- two orders are answered alike, in each of the 16 bytes
unfoldable pub same_answer : Outcome → Outcome → Bool
same_answer r s = all_below (λ i. eqb (byte_at (answer_of r) i) (byte_at (answer_of s) i)) 16

-- an order with another kind
abbrev pub with_kind : ℕ → Order → Order
with_kind kind o = order kind o.argument o.count

-- what an order becomes where the list of before is at c: "each 2 to the one that gives its old answer (6 if both do)"
unfoldable pub moved_order : Model → Order → Configuration → Order
moved_order M o c =
    not (eqb o.kind 2) ⇒ o
    ∣ same_answer (performed M (with_kind 6 o) c) (performed_before M o c) ⇒ with_kind 6 o
    ∣ with_kind 7 o

-- what a list becomes
unfoldable pub moved_over : Model → List Order → Configuration → List Order
moved_over M [] c = []
moved_over M (o ∷ os) c = moved_order M o c ∷ moved_over M os (performed_before M o c).after

-- its bytes
unfoldable pub moved_bytes : Model → List ℕ → List ℕ
moved_bytes M orders = order_bytes (moved_over M (orders_of orders) (first M))

-- the session's numbers; 10 where the buffer is not as long as the orders
unfoldable pub move_number : List ℕ → List ℕ → List ℕ → ℕ
move_number model orders buffer =
    first_failing (rules_of model ++ ((9 needs orders_ok orders) ∷ (10 needs eqb (length buffer) (length orders)) ∷ []))

pub record Move : Type 0 where
  pub number : ℕ
  pub buffer : List ℕ

-- a model, orders and a buffer, all three any bytes: a refused session writes nothing
unfoldable pub moved_of : List ℕ → List ℕ → List ℕ → Move
moved_of model orders buffer =
    eqb (move_number model orders buffer) 0 ⇒ record { number = 0; buffer = moved_bytes (model_of model) orders }
    ∣ record { number = move_number model orders buffer; buffer = buffer }

-- the number r that the function returned, and what the buffer, once `old`, holds then
pub record MoveIs (model orders old new : List ℕ) (r : ℕ) : Type 0 where
  pub number : r ≡ (moved_of model orders old).number
  pub buffer : new ≡ (moved_of model orders old).buffer

-- an order 6 or 7 that gave 11 and is played now; with an unused byte set it gives 11 still
abbrev pub is_new : Order → Bool
is_new o = (eqb o.kind 6 || eqb o.kind 7) && is_known o

-- For every model and every list of before, the moved list under the orders of now gives the same answers, byte by byte, and the
-- same end configuration. The exception is a list with such an order 6 or 7 in it.
abbrev pub MovesOver : Type 0
MovesOver = (M : Model) (orders : Bytes) → All (λ o. is_new o ≡ false) (orders_of orders.bytes)
    → played M (orders_of (moved_bytes M orders.bytes)) (first M) ≡ played_before M (orders_of orders.bytes) (first M)

-- an order moved from the struct c: its kind, and the configuration that the order of before hands back
pub record MovedAt (M : Model) (o : Order) (c : Config) (r : Moved) : Type 0 where
  pub kind : r.kind ≡ (moved_order M o (view_of c)).kind
  pub end : view_of r.config ≡ (performed_before M o (view_of c)).after
  pub valid : Valid M r.config
