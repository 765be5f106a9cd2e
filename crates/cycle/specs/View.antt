-- The configuration that the program's struct holds, and what the program keeps true of the struct.
use Rattle.std.specs.Prelude.{◌≡◌, ℕ, ◌<◌, get_or, length}
use Rattle.base.specs.Below.{list_below}
use Rattle.blocks.specs.Records.{Model}
use Rattle.rules.specs.Configuration.{DriverState, ProcessState, Configuration}
use Rattle.rules.specs.Statements.{stepped}
use Rattle.rules.specs.Orders.{Outcome, picked, settled, picked_set, read_of}
use Rattle.rules.specs.Invariant.{Reachable}
use Rattle.waveforms.specs.Pending.{driven_of, pending_of, no_driver, first_time}
use Rattle.steps.specs.Entries.{deadline_of, history_of, earlier_of}
use Rattle.cycle.specs.declared.config.Config.{Config}
use Rattle.cycle.specs.declared.orders.Answer.{Answer}
use Rattle.cycle.specs.declared.orders.Answered.{Answered}
use Rattle.cycle.specs.declared.picks.Picks.{Picks}
use Rattle.cycle.specs.declared.picks.Picks.TheVariants.{One, Settle, Set}

unfoldable pub driver_view : Config → ℕ → DriverState
driver_view c k = record { current = driven_of (get_or c.currents k 0); pending = pending_of c.time (get_or c.drivers k no_driver) }

unfoldable pub process_view : Config → ℕ → ProcessState
process_view c p =
    record {
      place = get_or c.places p 0;
      standing = get_or c.standings p 0;
      deadline = deadline_of (get_or c.deadlines p 0);
      fault = get_or c.faults p 0;
      node = get_or c.nodes p 0;
    }

-- the configuration of document 01 that the struct holds: lists of exactly the model's totals
unfoldable pub view_of : Config → Configuration
view_of c =
    record {
      time = c.time;
      deltas = c.deltas;
      signals = list_below (history_of c.signals) c.nsignals;
      earlier = list_below (earlier_of c.signals) c.nsignals;
      drivers = list_below (driver_view c) c.ndrivers;
      processes = list_below (process_view c) c.nprocesses;
      variables = list_below (λ a. get_or c.variables a 0) c.nvariables;
    }

-- what holds of the struct between orders: its view is reachable, and `due` has the first pending times
pub record Valid (M : Model) (c : Config) : Type 0 where
  pub reachable : Reachable M (view_of c)
  pub due : (k : ℕ) → k < c.ndrivers → get_or c.due k 0 ≡ first_time (pending_of c.time (get_or c.drivers k no_driver))

-- the struct r holds the configuration after a pick of process p
pub record StepsTo (M : Model) (p : ℕ) (c r : Config) : Type 0 where
  pub is : view_of r ≡ stepped M p (view_of c)
  pub valid : Valid M r

-- the answer to a refused order
abbrev pub refused_answer : ℕ → Answer
refused_answer n = record { refusal = n; byte = 0; picks = 0; value = 0 }

unfoldable pub outcome_of : Answered → Outcome
outcome_of r =
    record {
      refusal = r.answer.refusal;
      byte = r.answer.byte;
      picks = r.answer.picks;
      value = r.answer.value;
      after = view_of r.config;
    }

-- the answer and the configuration are those of the rules
pub record Answers (M : Model) (r : Answered) (o : Outcome) : Type 0 where
  pub is : outcome_of r ≡ o
  pub valid : Valid M r.config

-- the struct that is handed back is valid for every model that the one taken is valid for
abbrev pub Keeps : Config → Answered → Type 0
Keeps c r = (M : Model) → Valid M c → Valid M r.config

-- the outcome of a read, for every model with as many signals as the struct
abbrev pub ReadTo : ℕ → Config → Answered → Type 0
ReadTo s c r = (M : Model) → length M.signals ≡ c.nsignals → outcome_of r ≡ read_of M s (view_of c)

-- the outcome of the picks that an order asks for
abbrev pub picked_by : Model → Picks → Configuration → Outcome
picked_by M (One p) c = picked M p c
picked_by M (Settle n) c = settled M n c
picked_by M (Set set) c = picked_set M set c
