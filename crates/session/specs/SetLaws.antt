-- Laws of picks of sets (document 02, item 8), whose definition is `picked_set` (`rules/specs/Orders`).
use Rattle.std.specs.Prelude.{◌≡◌, Bool, ◌&&◌, List, [], ◌∷◌, ℕ, ltb}
use Rattle.sets.specs.Sets.{in_set}
use Rattle.determinacy.specs.Arrangements.{Arranges}
use Rattle.blocks.specs.Records.{Model, model_of}
use Rattle.model.specs.Rules.{refusal_of}
use Rattle.rules.specs.Configuration.{Configuration}
use Rattle.rules.specs.Orders.{set_bits}
use Rattle.session.specs.Lists.{Order, order, performed, played, after}
use Rattle.session.specs.Demand3.{picks_of}

-- process p is in the set
abbrev pub member : ℕ → ℕ → Bool
member set p = ltb p set_bits && in_set set p

-- the order that picks a set
abbrev pub set_order : ℕ → Order
set_order set = order 5 0 set

-- single picks of the processes of a list, one after the other
abbrev pub single_picks : List ℕ → List Order
single_picks [] = []
single_picks (p ∷ ps) = order 1 p 0 ∷ single_picks ps

-- two lists of orders, each from c, agree in end configuration and picks
pub record SameEnd (M : Model) (c : Configuration) (xs ys : List Order) : Type 0 where
  pub end : (played M xs c).end ≡ (played M ys c).end
  pub picks : picks_of (played M xs c).answers ≡ picks_of (played M ys c).answers

pub record SetLaws : Type 0 where
  -- "The empty set is done with 0 picks."
  pub empty_set : (M : Model) (c : Configuration)
      → performed M (set_order 0) c ≡ record { refusal = 0; byte = 0; picks = 0; value = 0; after = c }
  -- "The end is that of single picks in every arrangement of the set.": after any orders, where the set is picked, each list that has
  -- each of its processes once; and "each member" counts "as a pick"
  pub arranged : (m : List ℕ) → refusal_of m ≡ 0 → (os : List Order) (set : ℕ) (ps : List ℕ) → Arranges (member set) ps
      → (performed (model_of m) (set_order set) (after (model_of m) os)).refusal ≡ 0
      → SameEnd (model_of m) (after (model_of m) os) (single_picks ps) (set_order set ∷ [])
