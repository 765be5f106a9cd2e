-- The view of the empty configuration and of the first one. Assumes nothing.
use mathlib.Core.Path.{◌≡◌, sym, ap, ◌∙◌}
use mathlib.Core.List.{List, []}
use Prim.Native.Nat.{ℕ, ◌+◌, ◌*◌, ◌/◌, ◌<◌}
use native.Mathlib.Nat.{add-zero}
use native.Mathlib.Omega.{arith}
use lib.ListN.{length, get_or, replicate, length-map, length-replicate, get_or-replicate}
use Rattle.base.specs.Below.{list_below}
use Rattle.base.proofs.Below.{list_is, list_same}
use Rattle.blocks.specs.Records.{Model, signal_at, driver_at}
use Rattle.model.specs.Facts.{Facts}
use Rattle.rules.specs.Configuration.{DriverState, driver_in, process_in, first_drivers, first_signal, first, empty}
use Rattle.rules.proofs.FirstReachable.{first_reachable, driver_at_lem, process_at_lem, variable_at_lem}
use Rattle.rules.specs.declared.driven.Driven.TheVariants.{To}
use Rattle.waveforms.specs.Pending.{never, driven_of, pending_of, no_driver, first_time}
use Rattle.waveforms.proofs.Held.{value_held}
use Rattle.waveforms.specs.declared.driver.Driver.{Driver}
use Rattle.steps.specs.Delta.{KeptTo}
use Rattle.steps.specs.Entries.{history_of, earlier_of}
use Rattle.steps.proofs.Resolving.{driving_is}
use Rattle.cycle.specs.View.{driver_view, process_view, view_of}
use Rattle.cycle.specs.Arrays.{EntriesAre, variable_start, process_first, driver_start, first_value, value_at, FirstOf}
use Rattle.cycle.specs.declared.config.Config.{Config}

pub view_empty : (c : Config) → c.time ≡ 0 → c.deltas ≡ 0 → c.nsignals ≡ 0 → c.nvariables ≡ 0 → c.ndrivers ≡ 0 → c.nprocesses ≡ 0 → view_of c ≡ empty
unfolding view_of list_below
view_empty c t d s v k p = rw (t, d, s, v, k, p)

-- the arrays of the first configuration: d is a driver with nothing pending, vs are the first values and hs the histories
pub record Begins (M : Model) (c : Config) (d : Driver) (vs hs : List ℕ) : Type 0 where
  pub time : c.time ≡ 0
  pub deltas : c.deltas ≡ 0
  pub nsignals : c.nsignals ≡ length M.signals
  pub nvariables : c.nvariables ≡ length M.variables
  pub ndrivers : c.ndrivers ≡ length M.drivers
  pub nprocesses : c.nprocesses ≡ length M.processes
  pub variables : EntriesAre (variable_start M) c.nvariables c.variables
  pub places : EntriesAre (process_first M) c.nprocesses c.places
  pub currents : EntriesAre (driver_start M) c.ndrivers c.currents
  pub values : EntriesAre (first_value M c.currents c.ndrivers) c.nsignals vs
  pub histories : EntriesAre (value_at vs) (32 * c.nsignals) hs
  pub signals : KeptTo hs c.nsignals c.signals
  pub none : (t : ℕ) → pending_of t d ≡ []
  pub drivers : c.drivers ≡ replicate 64 d
  pub due : c.due ≡ replicate 64 never
  pub standings : c.standings ≡ replicate 16 0
  pub deadlines : c.deadlines ≡ replicate 16 never
  pub faults : c.faults ≡ replicate 16 0
  pub nodes : c.nodes ≡ replicate 16 0

module _ (M : Model) (fs : Facts M) (c : Config) (d : Driver) (vs hs : List ℕ) (b : Begins M c d vs hs) where
  variables_are : list_below (λ a. get_or c.variables a 0) c.nvariables ≡ (first M).variables
  unfolding first
  variables_are =
      list_is _ _ 0 c.nvariables (length-map M.variables _ ∙ sym b.nvariables)
      (λ a h. b.variables.at a h ∙ sym (variable_at_lem M fs a (omega (arith, b.nvariables))))

  processes_are : list_below (process_view c) c.nprocesses ≡ (first M).processes
  unfolding first process_view
  processes_are =
      list_is (process_view c) _ (process_in [] 0) c.nprocesses (length-map M.processes _ ∙ sym b.nprocesses)
      (λ p h.
      let l : p < 16 = omega (arith, b.nprocesses, fs.totals.processes) in
      rw (
        b.standings,
        b.deadlines,
        b.faults,
        b.nodes,
        get_or-replicate {A = ℕ} 16 p 0 0 l,
        get_or-replicate 16 p never 0 l,
        b.places.at p h,
        process_at_lem M fs p (omega (arith, b.nprocesses)),
      ))

  -- a starting value is no null
  current_is : (k : ℕ) → k < c.ndrivers → driven_of (get_or c.currents k 0) ≡ To (driver_start M k)
  current_is k h =
      let s = (driver_at M k).signal in
      rw (b.currents.at k h) (value_held (signal_at M s).ty (signal_at M s).start (fs.signal s (fs.driver k (omega (arith, b.ndrivers))).signal).start)

  driver_is : (k : ℕ) → k < c.ndrivers → driver_view c k ≡ driver_in (first_drivers M) k
  unfolding driver_view
  driver_is k h =
      let l : k < 64 = omega (arith, b.ndrivers, fs.totals.drivers) in
      rw (b.drivers, get_or-replicate 64 k d no_driver l, b.none c.time, current_is k h, driver_at_lem M fs k (omega (arith, b.ndrivers)))

  drivers_are : list_below (driver_view c) c.ndrivers ≡ first_drivers M
  unfolding first_drivers
  drivers_are = list_is (driver_view c) _ (driver_in [] 0) c.ndrivers (length-map M.drivers _ ∙ sym b.ndrivers) driver_is

  value_is : (s : ℕ) → first_value M c.currents c.ndrivers s ≡ first_signal M s
  unfolding first_signal
  value_is s = rw (driving_is M c.currents (first_drivers M) c.ndrivers s b.ndrivers (λ k h. current_is k h ∙ ap (λ (d : DriverState). d.current) (sym (driver_at_lem M fs k (omega (arith, b.ndrivers))))))

  begun_is : (s k : ℕ) → s < c.nsignals → k < 32 → get_or hs (32 * s + k) 0 ≡ first_signal M s
  begun_is s k h l =
      let e : (32 * s + k) / 32 ≡ s = omega arith in
      b.histories.at (32 * s + k) (omega arith) ∙ ap (λ (i : ℕ). get_or vs i 0) e ∙ b.values.at s h ∙ value_is s

  entry_is : (s k : ℕ) → s < c.nsignals → k < 32 → get_or c.signals (32 * s + k) 0 ≡ first_signal M s
  entry_is s k h l = b.signals.other (32 * s + k) (λ g. absurd (omega (arith, b.nsignals, fs.totals.signals))) ∙ begun_is s k h l

  earlier_are : list_below (earlier_of c.signals) c.nsignals ≡ (first M).earlier
  unfolding first
  earlier_are =
      rw (← b.nsignals)
      (list_same _ _ c.nsignals (λ s h. b.signals.earlier s h ∙ simp add-zero at (begun_is s 0 h (omega arith))))

  history_is : (s : ℕ) → s < c.nsignals → history_of c.signals s ≡ replicate 32 (first_signal M s)
  unfolding history_of
  history_is s h =
      list_is _ _ 0 32 (length-replicate 32 (first_signal M s))
      (λ k l. entry_is s k h l ∙ sym (get_or-replicate 32 k (first_signal M s) 0 l))

  signals_are : list_below (history_of c.signals) c.nsignals ≡ (first M).signals
  unfolding first
  signals_are = rw (← b.nsignals) (list_same _ _ c.nsignals history_is)

  view_first : view_of c ≡ first M
  unfolding view_of first
  view_first = rw (signals_are, earlier_are, drivers_are, processes_are, variables_are, b.time, b.deltas)

  due_is : (k : ℕ) → k < c.ndrivers → get_or c.due k 0 ≡ first_time (pending_of c.time (get_or c.drivers k no_driver))
  due_is k h =
      let l : k < 64 = omega (arith, b.ndrivers, fs.totals.drivers) in
      rw (b.due, b.drivers, get_or-replicate 64 k never 0 l, get_or-replicate 64 k d no_driver l, b.none c.time)

  pub begins_first : FirstOf M c
  begins_first = record { is = view_first; valid = record { reachable = rw view_first (first_reachable M fs); due = due_is } }
