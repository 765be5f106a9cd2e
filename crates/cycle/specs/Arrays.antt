-- What the arrays of the program's struct hold, entry by entry: what the functions over single arrays are held to.
use Rattle.std.specs.Prelude.{◌≡◌, List, ℕ, ◌/◌, ◌<◌, get_or}
use Rattle.blocks.specs.Records.{Model, signal_at, variable_at, process_at, driver_at}
use Rattle.rules.specs.Configuration.{first, resolved_or}
use Rattle.steps.specs.Entries.{driving_in}
use Rattle.cycle.specs.View.{Valid, view_of}
use Rattle.cycle.specs.declared.config.Config.{Config}

-- entry i of the first n is f i
pub record EntriesAre (f : ℕ → ℕ) (n : ℕ) (xs : List ℕ) : Type 0 where
  pub at : (i : ℕ) → i < n → get_or xs i 0 ≡ f i

-- what the first configuration's arrays hold
abbrev pub variable_start : Model → ℕ → ℕ
variable_start M a = (variable_at M a).start

abbrev pub process_first : Model → ℕ → ℕ
process_first M p = (process_at M p).first

abbrev pub driver_start : Model → ℕ → ℕ
driver_start M k = (signal_at M (driver_at M k).signal).start

abbrev pub first_value : Model → List ℕ → ℕ → ℕ → ℕ
first_value M currents ndrivers s = resolved_or M (signal_at M s).start (driving_in M currents s ndrivers)

-- entry i of histories of 32 equal values
abbrev pub value_at : List ℕ → ℕ → ℕ
value_at values i = get_or values (i / 32) 0

-- the struct holds the first configuration
pub record FirstOf (M : Model) (r : Config) : Type 0 where
  pub is : view_of r ≡ first M
  pub valid : Valid M r
