-- The view of the struct: its lengths and elements, and what a change of the struct does to it. Assumes nothing.
use mathlib.Core.Path.{◌≡◌, refl, sym, ap, ◌∙◌}
use mathlib.Core.List.{List, []}
use Prim.Native.Nat.{ℕ, ◌+◌, ◌*◌, ◌<◌}
use lib.Dec.{eqb}
use lib.ListN.{length, get_or, set}
use lib.Seq.{get_or-set_same, get_or-set_other}
use Rattle.base.specs.Below.{list_below}
use Rattle.base.proofs.Below.{list_length, list_at, list_change}
use Rattle.blocks.specs.Records.{Model}
use Rattle.rules.specs.Configuration.{DriverState, ProcessState, driver_in, process_in, past_of}
use Rattle.rules.specs.declared.value.Failure.{Failure}
use Rattle.rules.specs.Statements.{moved, waits, stops}
use Rattle.rules.specs.Orders.{is_ready}
use Rattle.rules.specs.Invariant.{Reachable}
use Rattle.waveforms.specs.Pending.{driven_of, pending_of, no_driver}
use Rattle.waveforms.specs.declared.driver.Driver.{Driver}
use Rattle.steps.specs.Entries.{deadline_of, history_of, earlier_of}
use Rattle.steps.proofs.Shifts.{history_at}
use Rattle.cycle.specs.View.{driver_view, process_view, view_of}
use Rattle.cycle.specs.declared.config.Config.{Config}

-- the lists of the view are as long as the struct says, and their elements are those of the arrays
module _ (c : Config) where
  pub signals_long : length (view_of c).signals ≡ c.nsignals
  unfolding view_of
  signals_long = list_length (history_of c.signals) c.nsignals

  pub earlier_long : length (view_of c).earlier ≡ c.nsignals
  unfolding view_of
  earlier_long = list_length (earlier_of c.signals) c.nsignals

  pub drivers_long : length (view_of c).drivers ≡ c.ndrivers
  unfolding view_of
  drivers_long = list_length (driver_view c) c.ndrivers

  pub processes_long : length (view_of c).processes ≡ c.nprocesses
  unfolding view_of
  processes_long = list_length (process_view c) c.nprocesses

  pub variables_long : length (view_of c).variables ≡ c.nvariables
  unfolding view_of
  variables_long = list_length (λ a. get_or c.variables a 0) c.nvariables

  pub history_in : (s : ℕ) → s < c.nsignals → get_or (view_of c).signals s [] ≡ history_of c.signals s
  unfolding view_of
  history_in s h = list_at (history_of c.signals) [] c.nsignals s h

  pub past_in : (s k : ℕ) → s < c.nsignals → k < 32 → past_of (view_of c).signals s k ≡ get_or c.signals (32 * s + k) 0
  past_in s k h l = rw (history_in s h) (history_at c.signals s k l)

  pub earlier_in_lem : (s : ℕ) → s < c.nsignals → get_or (view_of c).earlier s 0 ≡ earlier_of c.signals s
  unfolding view_of
  earlier_in_lem s h = list_at (earlier_of c.signals) 0 c.nsignals s h

  pub driver_in_lem : (k : ℕ) → k < c.ndrivers → driver_in (view_of c).drivers k ≡ driver_view c k
  unfolding view_of
  driver_in_lem k h = list_at (driver_view c) _ c.ndrivers k h

  pub pending_in : (k : ℕ) → k < c.ndrivers → (driver_in (view_of c).drivers k).pending ≡ pending_of c.time (get_or c.drivers k no_driver)
  unfolding driver_view
  pending_in k h = ap (λ (d : DriverState). d.pending) (driver_in_lem k h)

  pub process_in_lem : (p : ℕ) → p < c.nprocesses → process_in (view_of c).processes p ≡ process_view c p
  unfolding view_of
  process_in_lem p h = list_at (process_view c) _ c.nprocesses p h

  pub place_in : (p : ℕ) → p < c.nprocesses → (process_in (view_of c).processes p).place ≡ get_or c.places p 0
  unfolding process_view
  place_in p h = ap (λ (q : ProcessState). q.place) (process_in_lem p h)

  pub standing_in : (p : ℕ) → p < c.nprocesses → (process_in (view_of c).processes p).standing ≡ get_or c.standings p 0
  unfolding process_view
  standing_in p h = ap (λ (q : ProcessState). q.standing) (process_in_lem p h)

  pub ready_in_lem : (p : ℕ) → p < c.nprocesses → is_ready p (view_of c) ≡ eqb (get_or c.standings p 0) 0
  unfolding is_ready
  ready_in_lem p h = rw (standing_in p h)

  pub deadline_in : (p : ℕ) → p < c.nprocesses → (process_in (view_of c).processes p).deadline ≡ deadline_of (get_or c.deadlines p 0)
  unfolding process_view
  deadline_in p h = ap (λ (q : ProcessState). q.deadline) (process_in_lem p h)

  pub fault_in_lem : (p : ℕ) → p < c.nprocesses → (process_in (view_of c).processes p).fault ≡ get_or c.faults p 0
  unfolding process_view
  fault_in_lem p h = ap (λ (q : ProcessState). q.fault) (process_in_lem p h)

  pub node_in : (p : ℕ) → p < c.nprocesses → (process_in (view_of c).processes p).node ≡ get_or c.nodes p 0
  unfolding process_view
  node_in p h = ap (λ (q : ProcessState). q.node) (process_in_lem p h)

  pub variable_in : (a : ℕ) → a < c.nvariables → get_or (view_of c).variables a 0 ≡ get_or c.variables a 0
  unfolding view_of
  variable_in a h = list_at (λ a. get_or c.variables a 0) 0 c.nvariables a h

-- the totals of the struct are the model's
module _ (M : Model) (c : Config) (r : Reachable M (view_of c)) where
  pub nsignals_is : c.nsignals ≡ length M.signals
  nsignals_is = sym (signals_long c) ∙ r.signals

  pub ndrivers_is : c.ndrivers ≡ length M.drivers
  ndrivers_is = sym (drivers_long c) ∙ r.drivers

  pub nprocesses_is : c.nprocesses ≡ length M.processes
  nprocesses_is = sym (processes_long c) ∙ r.processes

  pub nvariables_is : c.nvariables ≡ length M.variables
  nvariables_is = sym (variables_long c) ∙ r.variables

-- a change of one variable
pub variables_set : (vs : List ℕ) (n a v : ℕ) → a < length vs → list_below (λ j. get_or (set vs a v) j 0) n ≡ set (list_below (λ j. get_or vs j 0) n) a v
variables_set vs n a v h =
    list_change (λ j. get_or vs j 0) (λ j. get_or (set vs a v) j 0) n a (λ j o. get_or-set_other vs a j v 0 o) ∙ rw (get_or-set_same vs a v 0 h)

-- what one process's entries say, and one driver's
abbrev pub row_of : List ℕ → List ℕ → List ℕ → List ℕ → List ℕ → ℕ → ProcessState
row_of places standings deadlines faults nodes p =
    record {
      place = get_or places p 0;
      standing = get_or standings p 0;
      deadline = deadline_of (get_or deadlines p 0);
      fault = get_or faults p 0;
      node = get_or nodes p 0;
    }

abbrev pub driver_of : ℕ → List ℕ → List Driver → ℕ → DriverState
driver_of t currents drivers k = record { current = driven_of (get_or currents k 0); pending = pending_of t (get_or drivers k no_driver) }

-- the view, with its lists written out
pub view_is : (c : Config) → view_of c ≡ record {
  time = c.time;
  deltas = c.deltas;
  signals = list_below (history_of c.signals) c.nsignals;
  earlier = list_below (earlier_of c.signals) c.nsignals;
  drivers = list_below (driver_of c.time c.currents c.drivers) c.ndrivers;
  processes = list_below (row_of c.places c.standings c.deadlines c.faults c.nodes) c.nprocesses;
  variables = list_below (λ a. get_or c.variables a 0) c.nvariables;
}
unfolding view_of driver_view process_view
view_is c = refl

-- the entries of process p are changed
module _ (places standings deadlines faults nodes : List ℕ) (n p : ℕ) where
  abbrev rows : List ProcessState
  rows = list_below (row_of places standings deadlines faults nodes) n

  abbrev row : ProcessState
  row = row_of places standings deadlines faults nodes p

  pub place_set : (i : ℕ) → p < length places → list_below (row_of (set places p i) standings deadlines faults nodes) n ≡ set rows p (moved row i)
  place_set i h =
      list_change (row_of places standings deadlines faults nodes) _ n p (λ j o. rw (get_or-set_other places p j i 0 o)) ∙ rw (get_or-set_same places p i 0 h)

  pub waits_set : p < length standings → list_below (row_of places (set standings p 1) deadlines faults nodes) n ≡ set rows p (waits row row.deadline)
  waits_set h =
      list_change (row_of places standings deadlines faults nodes) _ n p (λ j o. rw (get_or-set_other standings p j 1 0 o)) ∙ rw (get_or-set_same standings p 1 0 h)

  pub waits_for_set : (t : ℕ) → p < length standings → p < length deadlines → list_below (row_of places (set standings p 1) (set deadlines p t) faults nodes) n ≡ set rows p (waits row (deadline_of t))
  waits_for_set t h l =
      list_change (row_of places standings deadlines faults nodes) _ n p (λ j o. rw (get_or-set_other standings p j 1 0 o, get_or-set_other deadlines p j t 0 o))
      ∙ rw (get_or-set_same standings p 1 0 h, get_or-set_same deadlines p t 0 l)

  pub stops_set : (r : Failure) → p < length standings → p < length faults → p < length nodes
      → list_below (row_of places (set standings p 2) deadlines (set faults p r.fault) (set nodes p r.node)) n ≡ set rows p (stops row r)
  stops_set r h l m =
      list_change (row_of places standings deadlines faults nodes) _ n p
      (λ j o. rw (get_or-set_other standings p j 2 0 o, get_or-set_other faults p j r.fault 0 o, get_or-set_other nodes p j r.node 0 o))
      ∙ rw (get_or-set_same standings p 2 0 h, get_or-set_same faults p r.fault 0 l, get_or-set_same nodes p r.node 0 m)

-- the waveform of driver k is changed
pub driver_set : (t : ℕ) (currents : List ℕ) (drivers : List Driver) (n k : ℕ) (d : Driver) → k < length drivers → list_below (driver_of t currents (set drivers k d)) n ≡ set (list_below (driver_of t currents drivers) n) k (record { current = driven_of (get_or currents k 0); pending = pending_of t d })
driver_set t currents drivers n k d h =
    list_change (driver_of t currents drivers) _ n k (λ j o. rw (get_or-set_other drivers k j d no_driver o)) ∙ rw (get_or-set_same drivers k d no_driver h)
