-- Numberings of a signal's drivers (document 02, item 10): "For every accepted table, two numberings of a signal's drivers give one value."
use Rattle.std.specs.Prelude.{◌≡◌, ℕ, length}
use mathlib.Core.List.{List, [], ◌∷◌, ◌++◌, map, Perm}
use Rattle.base.specs.Below.{list_below}
use Rattle.blocks.specs.Records.{Model, signal_at}
use Rattle.rules.specs.Configuration.{DriverState, Configuration, current_of, driving_by, resolved_or, first_drivers, first_signal}
use Rattle.rules.specs.Steps.{taken, undriven, value_after}

-- the driving values of signal s where the drivers are taken in the order of a list of their numbers
unfoldable pub driving_as : Model → List DriverState → ℕ → List ℕ → List ℕ
driving_as M ds s [] = []
driving_as M ds s (k ∷ ks) = driving_by M ds s k ++ driving_as M ds s ks

-- a numbering: each driver once, in any order
abbrev pub Numbering : Model → List ℕ → Type 0
Numbering M ks = Perm ks (list_below (λ k. k) (length M.drivers))

-- one value by every two numberings, whatever the drivers carry, and by each the value that the rules give: at first and after a delta step
pub record OneValue (M : Model) : Type 0 where
  pub any : (ds : List DriverState) (s other : ℕ) (ks ls : List ℕ) → Numbering M ks → Numbering M ls
      → resolved_or M other (driving_as M ds s ks) ≡ resolved_or M other (driving_as M ds s ls)
  pub first : (s : ℕ) (ks : List ℕ) → Numbering M ks → resolved_or M (signal_at M s).start (driving_as M (first_drivers M) s ks) ≡ first_signal M s
  pub after : (c : Configuration) (s : ℕ) (ks : List ℕ) → Numbering M ks
      → resolved_or M (undriven (signal_at M s) (current_of c.signals s)) (driving_as M (map (taken c.time) c.drivers) s ks) ≡ value_after M c s
