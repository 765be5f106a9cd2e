-- Laws of lists of orders: what a refused order leaves, what follows it, and a session of no orders.
use Rattle.std.specs.Prelude.{◌≡◌, ◌≢◌, List, [], ◌∷◌, ℕ}
use Rattle.blocks.specs.Records.{Model, model_of}
use Rattle.model.specs.Rules.{refusal_of}
use Rattle.rules.specs.Configuration.{Configuration, first}
use Rattle.rules.specs.Orders.{refused}
use Rattle.session.specs.Lists.{Order, performed, answered, played}
use Rattle.session.specs.Sessions.{session_of}

pub record ListLaws : Type 0 where
  -- "1 to 7 when refused, are zero. The configuration is taken and handed back by every order": by a refused one as it was taken
  pub refused_kept : (M : Model) (o : Order) (c : Configuration) → (performed M o c).refusal ≢ 0
      → performed M o c ≡ refused (performed M o c).refusal c
  -- "After a refused order the next is played all the same."
  pub after_refused : (M : Model) (o : Order) (os : List Order) (c : Configuration) → (performed M o c).refusal ≢ 0
      → played M (o ∷ os) c ≡ answered (refused (performed M o c).refusal c) (played M os c)
  -- "No orders: number 0, first configuration."
  pub no_orders : (m : List ℕ) → refusal_of m ≡ 0 → session_of m [] [] ≡ record { number = 0; end = first (model_of m); buffer = [] }
