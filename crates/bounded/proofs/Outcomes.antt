-- Where a pick, a delta step and a time step are done, and what they then hand back. Assumes nothing.
use mathlib.Core.Path.{◌≡◌, refl, sym, ap, ◌∙◌}
use mathlib.Core.Bool.{true, false, true≢false}
use mathlib.Core.Option.{some}
use Prim.Native.Nat.{ℕ, ◌<◌}
use native.Mathlib.Omega.{arith}
use borrow.Author.Tests.{ne_eqb}
use lib.Dec.{eqb}
use lib.ListN.{length}
use Rattle.blocks.specs.Records.{Model}
use Rattle.rules.specs.Configuration.{Configuration}
use Rattle.rules.specs.Statements.{stepped}
use Rattle.rules.specs.Steps.{delta_step, time_step}
use Rattle.rules.specs.Orders.{Outcome, is_ready, picked, due_times, earliest, due_now, delta_stepped, time_stepped}
use Rattle.rules.proofs.Outcomes.{Refusal, Pick, pick_refused, pick_done_lem, pick_is, NoneReady, NoneStopped, Delta, delta_refused, delta_done, delta_is, Time, time_refused, time_done, time_is}
use Rattle.bounded.specs.Bounded.{kernel_of}

module _ (M : Model) (c : Configuration) where
  -- a refusal is not 0
  not_done : {A : Type 0} (n : ℕ) → Refusal n → eqb n 0 ≡ true → A
  not_done n h e = absurd (true≢false (sym e ∙ ne_eqb n 0 (λ z. omega (arith, h.least))))

  -- a pick that is done
  pub record Picks (p : ℕ) : Type 0 where
    pub there : p < length M.processes
    pub ready : is_ready p c ≡ true
    pub step : (picked M p c).after ≡ stepped M p c

  picks_by : (p : ℕ) (r : Outcome) → r ≡ picked M p c → Pick M c p r → eqb r.refusal 0 ≡ true → Picks p
  picks_by p r e (pick_refused n h) done = not_done n h done
  picks_by p r e (pick_done_lem there ready) done = record { there = there; ready = ready; step = sym (ap (λ (o : Outcome). o.after) e) }

  pub picks_of : (p : ℕ) → (kernel_of M).can_pick p c ≡ true → Picks p
  picks_of p = picks_by p (picked M p c) refl (pick_is M c p)

  -- a delta step that is done
  pub record Deltas : Type 0 where
    pub quiet : NoneReady M c
    pub running : NoneStopped M c
    pub due : due_now M c ≡ true
    pub step : (delta_stepped M c).after ≡ delta_step M c

  deltas_by : (r : Outcome) → r ≡ delta_stepped M c → Delta M c r → eqb r.refusal 0 ≡ true → Deltas
  deltas_by r e (delta_refused n h) done = not_done n h done
  deltas_by r e (delta_done quiet running due few) done =
      record { quiet = quiet; running = running; due = due; step = sym (ap (λ (o : Outcome). o.after) e) }

  pub deltas_of : (kernel_of M).can_delta c ≡ true → Deltas
  deltas_of = deltas_by (delta_stepped M c) refl (delta_is M c)

  -- a time step that is done
  pub record Times : Type 0 where
    pub at : ℕ
    pub due : due_now M c ≡ false
    pub next : earliest (due_times M c) ≡ some at
    pub step : (time_stepped M c).after ≡ time_step at c

  times_by : (r : Outcome) → r ≡ time_stepped M c → Time M c r → eqb r.refusal 0 ≡ true → Times
  times_by r e (time_refused n h) done = not_done n h done
  times_by r e (time_done t quiet due next low) done = record { at = t; due = due; next = next; step = sym (ap (λ (o : Outcome). o.after) e) }

  pub times_of : (kernel_of M).can_time c ≡ true → Times
  times_of = times_by (time_stepped M c) refl (time_is M c)
