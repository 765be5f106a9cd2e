-- The run of a model and orders: the session's own configurations, and of these the settled one of each time.
use Rattle.std.specs.Prelude.{◌≡◌, Bool, ◌&&◌, List, [], ◌∷◌, map, ℕ, ◌*◌, ◌≤◌, ◌<◌, eqb, length, get_or}
use Rattle.base.specs.Below.{list_below}
use Rattle.base.specs.Cases.{◌∣◌, ◌⇒◌}
use Rattle.blocks.specs.Records.{Model, model_of, signal_at}
use Rattle.rules.specs.Configuration.{Configuration, current_of, first}
use Rattle.rules.specs.Orders.{Outcome}
use Rattle.session.specs.Lists.{Order, orders_of, performed}
use Rattle.vcd.specs.Vcd.{Row}
use Rattle.vcd.specs.Writing.{rows_of}

-- an order that came to r is a done time step: order 7 (document 02, item 9)
abbrev pub steps_time : Order → Outcome → Bool
steps_time o r = eqb o.kind 7 && eqb r.refusal 0

-- the configurations just before a time step, and the one at the end: "Settled means the value just before a time step, or at the end."
unfoldable pub settled_in : Model → List Order → Configuration → List Configuration
settled_in M [] c = c ∷ []
settled_in M (o ∷ os) c =
    steps_time o (performed M o c) ⇒ (c ∷ settled_in M os (performed M o c).after)
    ∣ settled_in M os (performed M o c).after

-- the settled configurations of the session of a model and orders, any bytes: one for each time of the run
unfoldable pub run_of : List ℕ → List ℕ → List Configuration
run_of model orders = settled_in (model_of model) (orders_of orders) (first (model_of model))

-- a configuration's time and the current values of all signals
unfoldable pub row_at : Model → Configuration → Row
row_at M c = record { time = c.time; values = list_below (current_of c.signals) (length M.signals) }

abbrev pub types_of : Model → List ℕ
types_of M = map (λ s. s.ty) M.signals

-- entries of the arrays: the type of signal s, and its current value
abbrev pub signal_type : Model → ℕ → ℕ
signal_type M s = (signal_at M s).ty

abbrev pub current_at : List ℕ → ℕ → ℕ
current_at signals s = get_or signals (32 * s) 0

-- row k became r, and those before it stay
pub record RowPut (r : Row) (k : ℕ) (old new : ℕ → Row) : Type 0 where
  pub at : new k ≡ r
  pub before : (j : ℕ) → j < k → new j ≡ old j

-- arrays of times and values, and how many rows they hold, have the settled configurations
pub record Traced (M : Model) (run : List Configuration) (times values : List ℕ) (count : ℕ) : Type 0 where
  pub few : count ≤ 2049
  pub rows : rows_of (length M.signals) times values count ≡ map (row_at M) run
