-- The wiring of a model: who drives which signal, who assigns to it without delay and who waits on it. Assumes nothing.
use mathlib.Core.Path.{◌≡◌}
use mathlib.Core.Bool.{Bool, true, ◌&&◌}
use Prim.Native.Nat.{ℕ, ◌+◌, ◌-◌, ◌<◌}
use native.Mathlib.Omega.{arith}
use lib.ListN.{length}
use Rattle.base.proofs.Below.{any_found}
use Rattle.loops.specs.Kernel.{Wiring}
use Rattle.blocks.specs.Records.{Model, driver_at, process_at, statement_at}
use Rattle.blocks.specs.declared.records.StatementRecord.{StatementRecord}
use Rattle.fields.specs.Facts.{Spans}
use Rattle.leads.specs.Leads.{some_of, without_delay, waits_on, leads_to}
use Rattle.rules.specs.Configuration.{Configuration, driver_in, process_in}
use Rattle.rules.specs.Steps.{transaction_due, deadline_due}

module _ (M : Model) where
  -- a statement of the process passes the test
  pub some_of_lem : (p i : ℕ) (test : StatementRecord → Bool) → Spans M p i → test (statement_at M i) ≡ true → some_of M p test ≡ true
  unfolding some_of
  some_of_lem p i test s h =
      let first = (process_at M p).first in
      let e : first + (i - first) ≡ i = omega (arith, s.from) in
      any_found (λ j. test (statement_at M (first + j))) (process_at M p).count (i - first) (omega (arith, s.from, s.below)) (rw e h)

  -- a driver with a transaction due now
  pub record Due (k : ℕ) (c : Configuration) : Type 0 where
    pub there : k < length M.drivers
    pub now : transaction_due c.time (driver_in c.drivers k) ≡ true

  -- a process with a deadline due now
  pub record Expires (q : ℕ) (c : Configuration) : Type 0 where
    pub there : q < length M.processes
    pub now : deadline_due c.time (process_in c.processes q) ≡ true

  -- a statement of p that assigns to the signal without delay
  pub record Assigns (p x : ℕ) : Type 0 where
    pub at : ℕ
    pub span : Spans M p at
    pub soon : without_delay M (statement_at M at) ≡ true
    pub signal : (statement_at M at).a ≡ x

  abbrev pub Waits : ℕ → ℕ → Type 0
  Waits q x = waits_on M q x ≡ true

  pub leads_by : (p q x : ℕ) → Assigns p x → Waits q x → leads_to M p q ≡ true
  unfolding leads_to
  leads_by p q x a w = some_of_lem p a.at (λ s. without_delay M s && waits_on M q s.a) a.span (rw (a.soon, a.signal, w))

  abbrev pub wiring_of : Wiring
  wiring_of =
      record {
        processes = length M.processes;
        owner = λ k. (driver_at M k).process;
        signal = λ k. (driver_at M k).signal;
        Assigns = Assigns;
        Waits = Waits;
        leads = leads_to M;
        leads_by = leads_by;
      }
