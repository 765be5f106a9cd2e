-- Demand 3: the rules keep the laws of a kernel, and every list plays a run, so the lists of an accepted model are determinate.
-- Assumes nothing.
use mathlib.Core.Path.{◌≡◌, refl, sym, ap, ◌∙◌}
use mathlib.Core.Bool.{true, false, true≢false}
use mathlib.Core.Logic.{◌≢◌}
use Prim.Native.Nat.{ℕ, ◌<◌}
use native.Mathlib.Omega.{arith}
use borrow.Author.Tests.{ne_eqb}
use lib.Dec.{eqb}
use lib.ListN.{length}
use Rattle.base.proofs.Cases.{by_test, either_way}
use Rattle.determinacy.specs.Kernel.{Laws, NormalForm}
use Rattle.determinacy.specs.Determinacy.{Determinacy}
use Rattle.determinacy.proofs.Run.{determinate as by_runs}
use Rattle.blocks.specs.Records.{Model, model_of}
use Rattle.model.specs.Facts.{Facts}
use Rattle.model.proofs.Rules.{accepted}
use Rattle.model.proofs.Facts.{facts}
use Rattle.rules.specs.Configuration.{Configuration, first}
use Rattle.rules.specs.Statements.{stepped}
use Rattle.rules.specs.Invariant.{Reachable}
use Rattle.rules.specs.Orders.{Outcome, is_ready, picked, delta_stepped}
use Rattle.rules.proofs.Outcomes.{Pick, pick_refused, pick_done_lem, pick_is, pick_of_ready, NoneReady, Delta, delta_refused, delta_done, delta_is, Time, time_refused, time_done, time_is}
use Rattle.rules.proofs.FirstReachable.{first_reachable}
use Rattle.rules.proofs.Invariant.{picked_reachable, delta_step_reachable, time_step_reachable}
use Rattle.rules.proofs.Picks.{steps_commute, standing_stays}
use Rattle.session.specs.Demand3.{kernel_of, tally_of, Determinate}
use Rattle.session.proofs.Answers.{orders_small}
use Rattle.session.proofs.Runs.{played_run}

module _ (M : Model) (facts : Facts M) where
  -- a pick that is done is a step of a process that is there and ready
  record Ready (p : ℕ) (c : Configuration) : Type 0 where
    there : p < length M.processes
    ready : is_ready p c ≡ true
    step : (picked M p c).after ≡ stepped M p c

  ready_by : (p : ℕ) (c : Configuration) (r : Outcome) → r ≡ picked M p c → Pick M c p r → eqb r.refusal 0 ≡ true → Ready p c
  ready_by p c r e (pick_refused n h) done = absurd (true≢false (sym done ∙ ne_eqb n 0 (λ z. omega arith)))
  ready_by p c r e (pick_done_lem there ready) done = record { there = there; ready = ready; step = sym (ap (λ (o : Outcome). o.after) e) }

  ready_of : (p : ℕ) (c : Configuration) → (kernel_of M).ready p c ≡ true → Ready p c
  ready_of p c = ready_by p c (picked M p c) refl (pick_is M c p)

  -- a process that is not ready, and one that is not there, can not be picked
  none_by : (p : ℕ) (c : Configuration) {r : Outcome} → NoneReady M c → Pick M c p r → eqb r.refusal 0 ≡ false
  none_by p c quiet (pick_refused n h) = ne_eqb n 0 (λ z. omega arith)
  none_by p c quiet (pick_done_lem there ready) = absurd (true≢false (sym ready ∙ quiet p there))

  normal : (c : Configuration) → NoneReady M c → NormalForm (kernel_of M) c
  normal c quiet p = none_by p c quiet (pick_is M c p)

  -- a step that is done finds no process ready
  delta_quiet : (c : Configuration) {r : Outcome} → Delta M c r → eqb r.refusal 0 ≡ true → NoneReady M c
  delta_quiet c (delta_refused n h) done = absurd (true≢false (sym done ∙ ne_eqb n 0 (λ z. omega arith)))
  delta_quiet c (delta_done quiet running due few) done = quiet

  time_quiet : (c : Configuration) {r : Outcome} → Time M c r → eqb r.refusal 0 ≡ true → NoneReady M c
  time_quiet c (time_refused n h) done = absurd (true≢false (sym done ∙ ne_eqb n 0 (λ z. omega arith)))
  time_quiet c (time_done t quiet due at low) done = quiet

  -- an advance is a delta step, or a time step where no delta step is done
  quiet : (c : Configuration) → (kernel_of M).can_advance c ≡ true → NoneReady M c
  quiet c =
      either_way (eqb (delta_stepped M c).refusal 0)
      (λ d h. delta_quiet c (delta_is M c) d)
      (λ d h. time_quiet c (time_is M c) (rw d at h))

  advanced_sound : (c : Configuration) → Reachable M c → Reachable M ((kernel_of M).advanced c)
  advanced_sound c s =
      by_test (Reachable M) (eqb (delta_stepped M c).refusal 0) _ _ (λ d. delta_step_reachable M facts c s) (λ d. time_step_reachable M facts c s)

  -- the diamond
  stays_ready : (p q : ℕ) (c : Configuration) → p ≢ q → Ready p c → Ready q c → (kernel_of M).ready q ((kernel_of M).step p c) ≡ true
  stays_ready p q c other x y =
      rw (x.step, pick_of_ready M (stepped M p c) q y.there (standing_stays M p q c other ∙ y.ready))

  commutes : (p q : ℕ) (c : Configuration) → Reachable M c → p ≢ q → Ready p c → Ready q c
      → (kernel_of M).step q ((kernel_of M).step p c) ≡ (kernel_of M).step p ((kernel_of M).step q c)
  commutes p q c s other x y =
      rw (
        x.step,
        y.step,
        pick_of_ready M (stepped M p c) q y.there (standing_stays M p q c other ∙ y.ready),
        pick_of_ready M (stepped M q c) p x.there (standing_stays M q p c (λ e. other (sym e)) ∙ x.ready),
      )
      (steps_commute M facts c s p q other x.there y.there)

  pub laws : Laws (kernel_of M)
  laws =
      record {
        Sound = Reachable M;
        step_sound = λ p c s r. picked_reachable M facts c s p;
        advanced_sound = λ c s r. advanced_sound c s;
        advances_normal = λ c s r. normal c (quiet c r);
        stays_ready = λ p q c s other rp rq. stays_ready p q c other (ready_of p c rp) (ready_of q c rq);
        commutes = λ p q c s other rp rq. commutes p q c s other (ready_of p c rp) (ready_of q c rq);
      }

  -- what can be reached is sound
  pub sound : (c : Configuration) → Reachable M c → laws.Sound c
  unfolding laws
  sound c r = r

  pub determinate_of : Determinacy (kernel_of M) (tally_of M)
  unfolding laws
  determinate_of =
      by_runs (kernel_of M) laws (tally_of M) (first M) (first_reachable M facts) (λ xs. played_run M _ (orders_small xs) (first M))

-- demand 3
pub determinate : Determinate
determinate m h = determinate_of (model_of m) (facts (model_of m) (accepted m h))
