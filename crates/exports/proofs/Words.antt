-- The words of a configuration, read from the struct that holds it. Assumes nothing.
use mathlib.Core.Path.{◌≡◌, sym}
use mathlib.Core.Bool.{Bool}
use mathlib.Core.List.{List, [], ◌++◌, append-nil}
use Prim.Native.Nat.{ℕ, zero, ◌+◌, ◌-◌, ◌/◌, ◌%◌, ◌≤◌, ◌<◌}
use native.Mathlib.Nat.{le_antisymm}
use native.Mathlib.Omega.{arith}
use borrow.Author.Tests.{lt-ltb, le-ltb, ne_eqb}
use lib.Dec.{ltb, eqb}
use lib.ListN.{length, get_or, take, drop, drop_of_length-le, get_or-eq_default}
use Rattle.base.specs.Below.{list_below}
use Rattle.base.specs.Cases.{◌∣◌, ◌⇒◌}
use Rattle.base.proofs.Below.{list_length, list_at, NoneOf, none_of}
use Rattle.base.proofs.Cases.{either}
use Rattle.rules.specs.Configuration.{Transaction, Configuration, driver_in, past_of, last_time}
use Rattle.rules.specs.declared.driven.Driven.{Driven}
use Rattle.rules.specs.declared.driven.Driven.TheVariants.{To}
use Rattle.waveforms.specs.Pending.{never, driven_of, pending_of, no_driver}
use Rattle.waveforms.specs.declared.driver.Driver.{Driver}
use Rattle.cycle.specs.View.{driver_view, process_view, view_of}
use Rattle.cycle.specs.declared.config.Config.{Config}
use Rattle.cycle.proofs.ViewLaws.{signals_long, earlier_long, drivers_long, processes_long, variables_long, driver_in_lem}
use Rattle.exports.specs.Dump.{no_process, no_transaction, driven_word, total_word, driver_word, process_word, word_of}

-- the time, where the view's is known
pub in_time : (c : Config) (v : Configuration) → view_of c ≡ v → v.time ≤ last_time → c.time ≤ last_time
unfolding view_of
in_time c v e h = rw (← e) at h

-- the totals
pub last_total : (C : Configuration) (j : ℕ) → NoneOf j 0 5 → length C.processes ≡ total_word C j
unfolding total_word
last_total C j h =
    let at : (k : ℕ) → k < 5 → j ≡ k → ⊥ = λ k l e. none_of 0 5 j h (omega arith) (omega arith) in
    rw (ne_eqb j 0 (at 0 (omega arith)), ne_eqb j 1 (at 1 (omega arith)), ne_eqb j 2 (at 2 (omega arith)), ne_eqb j 3 (at 3 (omega arith)), ne_eqb j 4 (at 4 (omega arith)))

-- the words of what is not there
pub past_none : (c : Config) (s k : ℕ) → c.nsignals ≤ s → 0 ≡ past_of (view_of c).signals s k
past_none c s k h =
    let l : length (view_of c).signals ≤ s = omega (arith, signals_long c) in
    rw (get_or-eq_default (view_of c).signals [] l)

pub earlier_none : (c : Config) (s : ℕ) → c.nsignals ≤ s → 0 ≡ get_or (view_of c).earlier s 0
earlier_none c s h =
    let l : length (view_of c).earlier ≤ s = omega (arith, earlier_long c) in
    rw (get_or-eq_default (view_of c).earlier 0 l)

pub variable_none : (c : Config) (a : ℕ) → c.nvariables ≤ a → 0 ≡ get_or (view_of c).variables a 0
variable_none c a h =
    let l : length (view_of c).variables ≤ a = omega (arith, variables_long c) in
    rw (get_or-eq_default (view_of c).variables 0 l)

same : (b : Bool) → (b ⇒ zero ∣ zero) ≡ zero
same b = sym (either b 0)

driver_zeros : (j : ℕ) → 0 ≡ driver_word (record { current = To 0; pending = [] }) j
unfolding driver_word
driver_zeros j = rw (same (ltb j 10), same (eqb j 1), same (eqb j 0))

pub driver_none : (c : Config) (k j : ℕ) → c.ndrivers ≤ k → 0 ≡ driver_word (driver_in (view_of c).drivers k) j
driver_none c k j h =
    let l : length (view_of c).drivers ≤ k = omega (arith, drivers_long c) in
    rw (get_or-eq_default (view_of c).drivers (record { current = To 0; pending = [] }) l) (driver_zeros j)

process_zeros : (j : ℕ) → 0 ≡ process_word no_process j
unfolding process_word
process_zeros j = rw (same (eqb j 4), same (eqb j 3), same (eqb j 2), same (eqb j 1), same (eqb j 0))

pub process_none : (c : Config) (p j : ℕ) → c.nprocesses ≤ p → 0 ≡ process_word (get_or (view_of c).processes p no_process) j
process_none c p j h =
    let l : length (view_of c).processes ≤ p = omega (arith, processes_long c) in
    rw (get_or-eq_default (view_of c).processes no_process l) (process_zeros j)

-- a driver's words
pub driver_some : (c : Config) (k j w : ℕ) → k < c.ndrivers → w ≡ driver_word (record { current = driven_of (get_or c.currents k 0); pending = pending_of c.time (get_or c.drivers k no_driver) }) j → w ≡ driver_word (driver_in (view_of c).drivers k) j
unfolding driver_view
driver_some c k j w h e = rw (driver_in_lem c k h) e

module _ (d : Driver) (current : Driven) (t j : ℕ) where
  abbrev at : ℕ → Transaction
  at k = record { time = t + get_or d.times k 0; value = driven_of (get_or d.values k 0) }

  pub count_word : (j ≡ 0 → ⊥) → j ≡ 1 → d.count ≡ driver_word (record { current = current; pending = pending_of t d }) j
  unfolding driver_word pending_of
  count_word h e = rw (e, list_length)

  module _ (h : j ≡ 0 → ⊥) (l : j ≡ 1 → ⊥) where
    pub time_word : j < 10 → j - 2 < d.count → t + get_or d.times (j - 2) 0 ≡ driver_word (record { current = current; pending = pending_of t d }) j
    unfolding driver_word pending_of
    time_word m n = rw (ne_eqb j 0 h, ne_eqb j 1 l, lt-ltb j 10 m, list_at _ no_transaction d.count (j - 2) n)

    pub time_none : j < 10 → d.count ≤ j - 2 → 0 ≡ driver_word (record { current = current; pending = pending_of t d }) j
    unfolding driver_word pending_of
    time_none m n = rw (ne_eqb j 0 h, ne_eqb j 1 l, lt-ltb j 10 m, get_or-eq_default (list_below at d.count) no_transaction {n = j - 2} (rw list_length n))

    pub value_word : 10 ≤ j → j - 10 < d.count → driven_word (driven_of (get_or d.values (j - 10) 0)) ≡ driver_word (record { current = current; pending = pending_of t d }) j
    unfolding driver_word pending_of
    value_word m n = rw (ne_eqb j 0 h, ne_eqb j 1 l, le-ltb j 10 m, list_at _ no_transaction d.count (j - 10) n)

    pub value_none : 10 ≤ j → d.count ≤ j - 10 → 0 ≡ driver_word (record { current = current; pending = pending_of t d }) j
    unfolding driver_word pending_of
    value_none m n = rw (ne_eqb j 0 h, ne_eqb j 1 l, le-ltb j 10 m, get_or-eq_default (list_below at d.count) no_transaction {n = j - 10} (rw list_length n))

-- a process's words
module _ (c : Config) (p j : ℕ) (h : p < c.nprocesses) where
  process_at_lem : get_or (view_of c).processes p no_process ≡ process_view c p
  unfolding view_of
  process_at_lem = list_at (process_view c) no_process c.nprocesses p h

  pub place_word : j ≡ 0 → get_or c.places p 0 ≡ process_word (get_or (view_of c).processes p no_process) j
  unfolding process_word process_view
  place_word e = rw (process_at_lem, e)

  pub standing_word : j ≡ 1 → get_or c.standings p 0 ≡ process_word (get_or (view_of c).processes p no_process) j
  unfolding process_word process_view
  standing_word e = rw (process_at_lem, e)

  pub fault_word : j ≡ 2 → get_or c.faults p 0 ≡ process_word (get_or (view_of c).processes p no_process) j
  unfolding process_word process_view
  fault_word e = rw (process_at_lem, e)

  pub node_word : j ≡ 3 → get_or c.nodes p 0 ≡ process_word (get_or (view_of c).processes p no_process) j
  unfolding process_word process_view
  node_word e = rw (process_at_lem, e)

  module _ (e₀ : j ≡ 0 → ⊥) (e₁ : j ≡ 1 → ⊥) (e₂ : j ≡ 2 → ⊥) (e₃ : j ≡ 3 → ⊥) where
    pub no_deadline : get_or c.deadlines p 0 ≡ never → 0 ≡ process_word (get_or (view_of c).processes p no_process) j
    unfolding process_word process_view
    no_deadline e = rw (process_at_lem, e, ne_eqb j 0 e₀, ne_eqb j 1 e₁, ne_eqb j 2 e₂, ne_eqb j 3 e₃, same (eqb j 4))

    pub deadline_set : (get_or c.deadlines p 0 ≡ never → ⊥) → j ≡ 4 → 1 ≡ process_word (get_or (view_of c).processes p no_process) j
    unfolding process_word process_view
    deadline_set e e₄ = rw (process_at_lem, ne_eqb _ never e, e₄)

    pub deadline_word : (get_or c.deadlines p 0 ≡ never → ⊥) → (j ≡ 4 → ⊥) → get_or c.deadlines p 0 ≡ process_word (get_or (view_of c).processes p no_process) j
    unfolding process_word process_view
    deadline_word e e₄ = rw (process_at_lem, ne_eqb _ never e, ne_eqb j 0 e₀, ne_eqb j 1 e₁, ne_eqb j 2 e₂, ne_eqb j 3 e₃, ne_eqb j 4 e₄)

-- the sections
module _ (C : Configuration) (i : ℕ) where
  pub in_totals : i < 6 → word_of C i ≡ total_word C i
  unfolding word_of
  in_totals h = rw (lt-ltb i 6 h)

  pub in_signals : 6 ≤ i → i < 1030 → word_of C i ≡ past_of C.signals ((i - 6) / 32) ((i - 6) % 32)
  unfolding word_of
  in_signals l h = rw (le-ltb i 6 l, lt-ltb i 1030 h)

  pub in_variables : 1030 ≤ i → i < 1094 → word_of C i ≡ get_or C.variables (i - 1030) 0
  unfolding word_of
  in_variables l h = rw (le-ltb i 6 (omega arith), le-ltb i 1030 l, lt-ltb i 1094 h)

  pub in_drivers : 1094 ≤ i → i < 2246 → word_of C i ≡ driver_word (driver_in C.drivers ((i - 1094) / 18)) ((i - 1094) % 18)
  unfolding word_of
  in_drivers l h = rw (le-ltb i 6 (omega arith), le-ltb i 1030 (omega arith), le-ltb i 1094 l, lt-ltb i 2246 h)

  pub in_processes : 2246 ≤ i → i < 2342 → word_of C i ≡ process_word (get_or C.processes ((i - 2246) / 6) no_process) ((i - 2246) % 6)
  unfolding word_of
  in_processes l h = rw (le-ltb i 6 (omega arith), le-ltb i 1030 (omega arith), le-ltb i 1094 (omega arith), le-ltb i 2246 l, lt-ltb i 2342 h)

  pub in_earlier : 2342 ≤ i → i < 2374 → word_of C i ≡ get_or C.earlier (i - 2342) 0
  unfolding word_of
  in_earlier l h =
      rw (le-ltb i 6 (omega arith), le-ltb i 1030 (omega arith), le-ltb i 1094 (omega arith), le-ltb i 2246 (omega arith), le-ltb i 2342 l, lt-ltb i 2374 h)

  pub past_all : 2374 ≤ i → word_of C i ≡ 0
  unfolding word_of
  past_all l =
      rw (le-ltb i 6 (omega arith), le-ltb i 1030 (omega arith), le-ltb i 1094 (omega arith), le-ltb i 2246 (omega arith), le-ltb i 2342 (omega arith), le-ltb i 2374 l)

-- the loop over the buffer wrote it all
pub all_written : (f : ℕ → ℕ) (d out : List ℕ) (i : ℕ) → i ≤ length d → length d ≤ i → out ≡ (take 0 d ++ list_below f i) ++ drop i d → out ≡ list_below f (length d)
all_written f d out i h l e = rw (e, drop_of_length-le d l, append-nil, le_antisymm h l)
