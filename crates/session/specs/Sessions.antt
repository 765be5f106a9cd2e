-- A session over bytes: its number, its end configuration and the answer buffer.
use Rattle.std.specs.Prelude.{Bool, ◌&&◌, List, [], ◌∷◌, ◌++◌, ◌≡◌, ℕ, ◌*◌, ◌%◌, eqb, leb, length}
use Rattle.base.specs.Rules.{Rule, ◌needs◌, first_failing}
use Rattle.base.specs.Cases.{◌∣◌, ◌⇒◌}
use Rattle.blocks.specs.Records.{Model, model_of}
use Rattle.model.specs.Rules.{rules_of}
use Rattle.rules.specs.Configuration.{Configuration, first, empty}
use Rattle.cycle.specs.View.{view_of}
use Rattle.session.specs.Lists.{Played, orders_of, played}
use Rattle.session.specs.declared.Ended.{Ended}

-- 9. "Orders' length is not a multiple of 4 up to 16,384."
unfoldable pub orders_ok : List ℕ → Bool
orders_ok orders = eqb (length orders % 4) 0 && leb (length orders) 16384

-- 10. "The answer buffer is not four times as long as the orders."
unfoldable pub buffer_ok : List ℕ → List ℕ → Bool
buffer_ok orders buffer = eqb (length buffer) (4 * length orders)

-- 9 and 10, in checking order
abbrev pub length_rules : List ℕ → List ℕ → List Rule
length_rules orders buffer = (9 needs orders_ok orders) ∷ (10 needs buffer_ok orders buffer) ∷ []

-- the first that applies of the model's own numbers, 9 and 10, or 0
unfoldable pub number_of : List ℕ → List ℕ → List ℕ → ℕ
number_of model orders buffer = first_failing (rules_of model ++ length_rules orders buffer)

-- the bytes of some answers, one after the other
abbrev pub bytes_of : List (List ℕ) → List ℕ
bytes_of [] = []
bytes_of (a ∷ as') = a ++ bytes_of as'

-- the list of orders that the bytes hold, played from c, ends in e and fills the buffer with its answers
pub record PlayedTo (M : Model) (orders : List ℕ) (c e : Configuration) (buffer : List ℕ) : Type 0 where
  pub end : e ≡ (played M (orders_of orders) c).end
  pub answers : buffer ≡ bytes_of (played M (orders_of orders) c).answers

pub record Session : Type 0 where
  pub number : ℕ
  pub end : Configuration
  pub buffer : List ℕ

abbrev pub accepted : Played → Session
accepted r = record { number = 0; end = r.end; buffer = bytes_of r.answers }

-- "a refused one writes no answer and returns the empty configuration"
abbrev pub refused_with : ℕ → List ℕ → Session
refused_with n buffer = record { number = n; end = empty; buffer = buffer }

-- the session of a model, orders and an answer buffer, all three any bytes
unfoldable pub session_of : List ℕ → List ℕ → List ℕ → Session
session_of model orders buffer =
    eqb (number_of model orders buffer) 0 ⇒ accepted (played (model_of model) (orders_of orders) (first (model_of model)))
    ∣ refused_with (number_of model orders buffer) buffer

-- what the program returned, and what the buffer, once `old`, holds then, is the session
pub record SessionIs (model orders old new : List ℕ) (r : Ended) : Type 0 where
  pub number : r.number ≡ (session_of model orders old).number
  pub end : view_of r.config ≡ (session_of model orders old).end
  pub buffer : new ≡ (session_of model orders old).buffer
