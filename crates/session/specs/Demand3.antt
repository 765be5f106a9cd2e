-- Demand 3: determinacy, one claim over whole lists of orders.
-- "Every list in it, the empty one too, starts from the model's first configuration [..] An order is done when byte 0 of its
-- answer is 0. A list's picks are the sum of bytes 2-3 over its answers."
use Rattle.std.specs.Prelude.{◌≡◌, Bool, ◌&&◌, ◌||◌, List, [], ◌∷◌, ℕ, ◌+◌, ◌<◌, eqb, get_or}
use Rattle.base.specs.Bytes.{byte_at, word_at}
use Rattle.base.specs.Cases.{◌∣◌, ◌⇒◌}
use Rattle.determinacy.specs.Kernel.{Kernel}
use Rattle.determinacy.specs.Determinacy.{Tally, Determinacy}
use Rattle.blocks.specs.Records.{Model, model_of}
use Rattle.model.specs.Rules.{refusal_of}
use Rattle.rules.specs.Configuration.{Configuration, first}
use Rattle.rules.specs.Orders.{picked, delta_stepped, time_stepped}
use Rattle.session.specs.Lists.{Order, Played, orders_of, played}

-- a list's picks: those of a set are as many as it has processes
unfoldable pub picks_of : List (List ℕ) → ℕ
picks_of [] = 0
picks_of (a ∷ rest) = word_at a 2 + picks_of rest

-- document 02, item 9: "the done orders 6 and 7, counted together, are its advances"
abbrev pub is_advance : Order → List ℕ → Bool
is_advance o a = (eqb o.kind 6 || eqb o.kind 7) && eqb (byte_at a 0) 0

-- the done advances of a list
unfoldable pub advances_of : List Order → List (List ℕ) → ℕ
advances_of [] bs = 0
advances_of (o ∷ os) [] = 0
advances_of (o ∷ os) (a ∷ bs) = (is_advance o a ⇒ 1 ∣ 0) + advances_of os bs

-- a list of bytes: what an order list is made of
pub record Bytes : Type 0 where
  pub bytes : List ℕ
  pub small : (i : ℕ) → get_or bytes i 0 < 256

-- what a list of orders, as bytes, comes to from the model's first configuration
abbrev pub tally_of : Model → Bytes → Tally Configuration
tally_of M xs =
    let r : Played = played M (orders_of xs.bytes) (first M) in
    record { end = r.end; picks = picks_of r.answers; advances = advances_of (orders_of xs.bytes) r.answers }

-- the rules as a kernel of picks and advances: process p is ready when the pick of it is done; an advance is the delta
-- step or the time step, whichever is done
abbrev pub kernel_of : Model → Kernel
kernel_of M =
    record {
      Conf = Configuration;
      ready = λ p c. eqb (picked M p c).refusal 0;
      step = λ p c. (picked M p c).after;
      can_advance = λ c. eqb (delta_stepped M c).refusal 0 || eqb (time_stepped M c).refusal 0;
      advanced = λ c. eqb (delta_stepped M c).refusal 0 ⇒ (delta_stepped M c).after ∣ (time_stepped M c).after;
    }

-- Demand 3: lists that end with no process ready after equally many done advances agree in picks and end configuration; every
-- other list is behind by picks alone, and exactly the missing picks, however chosen, bring it to that same end.
abbrev pub Determinate : Type 0
Determinate = (m : List ℕ) → refusal_of m ≡ 0 → Determinacy (kernel_of (model_of m)) (tally_of (model_of m))
