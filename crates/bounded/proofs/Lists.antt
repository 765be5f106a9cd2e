-- Every list of orders plays a run, by as many delta steps at each time as its answers say; so the bound holds. Assumes nothing.
use mathlib.Core.Path.{◌≡◌, refl, ap}
use mathlib.Core.Bool.{true, false, not, ◌&&◌}
use mathlib.Core.List.{List, [], ◌∷◌}
use Prim.Native.Nat.{ℕ, ◌+◌, ◌<◌}
use native.Mathlib.Nat.{zero-add}
use native.Mathlib.Omega.{arith}
use borrow.Author.Tests.{eqb-true, eqb-false}
use lib.Dec.{eqb}
use lib.ListN.{length}
use Rattle.base.specs.Cases.{◌∣◌, ◌⇒◌}
use Rattle.base.proofs.Below.{and_true_false}
use Rattle.base.proofs.Cases.{by_test, either_way}
use Rattle.determinacy.proofs.Run.{Run as Picks, stay as none-picked, by_pick as one-picked}
use Rattle.loops.specs.Chains.{NoChain}
use Rattle.loops.specs.Bound.{Run, stay, by_pick, by_delta, by_time, FewSteps}
use Rattle.loops.proofs.Bound.{few_steps}
use Rattle.blocks.specs.Records.{Model, model_of}
use Rattle.model.specs.Facts.{Facts}
use Rattle.model.proofs.Rules.{accepted}
use Rattle.model.proofs.Facts.{facts}
use Rattle.leads.specs.Leads.{leads_to, waits_later}
use Rattle.rules.specs.Configuration.{Configuration, first}
use Rattle.rules.specs.Invariant.{Reachable}
use Rattle.rules.specs.Orders.{Outcome, refused, delta_stepped, time_stepped, settled, set_bits}
use Rattle.rules.proofs.Outcomes.{Pick, pick_refused, pick_done_lem, pick_is, Delta, delta_refused, delta_done, delta_is, Time, time_refused, time_done, time_is, PickSet, set_refused, set_done_lem, pick_set_is, Read, read_refused, read_done, read_is}
use Rattle.rules.proofs.FirstReachable.{first_reachable}
use Rattle.rules.proofs.Invariant.{delta_step_reachable}
use Rattle.session.specs.Lists.{Order, is_known, answer_of, performed, played_by, played, after}
use Rattle.session.specs.Demand3.{kernel_of as kernelOfDemand3}
use Rattle.session.proofs.Answers.{refusal_byte, time_bytes}
use Rattle.session.proofs.InTime.{performed_reachable}
use Rattle.session.proofs.ListLaws.{delta_kept}
use Rattle.session.proofs.Runs.{pick_run, settles, members_run}
use Rattle.bounded.specs.Bounded.{is_step_at, steps_at, delta_steps, kernel_of, Bounded}
use Rattle.bounded.proofs.Outcomes.{deltas_of}
use Rattle.bounded.proofs.Wiring.{wiring_of}
use Rattle.bounded.proofs.Deltas.{delta_leaves}
use Rattle.bounded.proofs.Laws.{laws, sound}

module _ (M : Model) (t : ℕ) where
  abbrev Runs : Configuration → ℕ → Configuration → Type 0
  Runs = Run (kernel_of M) t

  -- a run from d goes on from c, by a more delta steps at the time t
  abbrev Before : Configuration → ℕ → Configuration → Type 0
  Before c a d = (n : ℕ) (e : Configuration) → Runs d n e → Runs c (a + n) e

  -- by no more
  abbrev Leads : Configuration → Configuration → Type 0
  Leads c d = (n : ℕ) (e : Configuration) → Runs d n e → Runs c n e

  leads_before : (c d : Configuration) → Leads c d → Before c 0 d
  leads_before c d f n e u = rw zero-add (f n e u)

  -- the picks of a run without an advance, as demand 3 has them
  picks_lead : {c d : Configuration} {m : ℕ} → Picks (kernelOfDemand3 M) c 0 m d → Leads c d
  picks_lead none-picked = λ n e u. u
  picks_lead (one-picked p can rest) = λ n e u. by_pick p can (picks_lead rest n e u)

  pick_leads : (p : ℕ) (c : Configuration) {r : Outcome} → Pick M c p r → Leads c r.after
  pick_leads p c (pick_refused m h) = λ n e u. u
  pick_leads p c (pick_done_lem there ready) = picks_lead (pick_run M p c there ready none-picked)

  set_leads : (set : ℕ) (c : Configuration) {r : Outcome} → PickSet M c set r → Leads c r.after
  set_leads set c (set_refused m h) = λ n e u. u
  set_leads set c (set_done_lem all) = picks_lead (members_run M set c all set_bits (omega arith))

  read_leads : (s : ℕ) (c : Configuration) {r : Outcome} → Read M c s r → Leads c r.after
  read_leads s c (read_refused m h) n e u = u
  read_leads s c (read_done there) n e u = u

  -- a time step and a delta step, done or refused
  time_leads : (c : Configuration) {r : Outcome} → (eqb r.refusal 0 ≡ true → Leads c r.after) → Time M c r → Leads c r.after
  time_leads c done (time_refused m h) n e u = u
  time_leads c done (time_done at quiet due next low) n e u = done refl n e u

  small : (c : Configuration) {r : Outcome} → Delta M c r → r.refusal < 256
  small c (delta_refused m h) = omega (arith, h.most)
  small c (delta_done quiet running due few) = omega arith

  delta_run : (c : Configuration) → Before c ((eqb (delta_stepped M c).refusal 0 && eqb (delta_stepped M c).after.time t) ⇒ 1 ∣ 0) (delta_stepped M c).after
  delta_run c n e u =
      either_way (eqb (delta_stepped M c).refusal 0)
      (λ can. rw (can, delta_leaves M c (deltas_of M c can)) (by_delta can u))
      (λ f.
      let same : (delta_stepped M c).after ≡ c = ap (λ (r : Outcome). r.after) (delta_kept M c (delta_is M c) (eqb-false _ 0 f)) in
      rw (f, zero-add) (rw same at u))

  -- an order before a run, by what its answer says
  module _ (fs : Facts M) (c : Configuration) (r : Reachable M c) (o : Order) where
    abbrev Counted : Outcome → Type 0
    Counted r = Before c (is_step_at t o (answer_of r) ⇒ 1 ∣ 0) r.after

    -- an order of another kind than 6 is no delta step
    no_step : (r : Outcome) → eqb o.kind 6 ≡ false → Leads c r.after → Counted r
    no_step r other f = rw other (leads_before c r.after f)

    -- nor is one that is refused with 11
    unknown : Counted (refused 11 c)
    unknown =
        rw (refusal_byte (refused 11 c) (omega arith), and_true_false (eqb o.kind 6) false refl) (leads_before c c (λ n e u. u))

    delta_counted : eqb o.kind 6 ≡ true → Counted (delta_stepped M c)
    delta_counted kind =
        let d = delta_stepped M c in
        rw (kind, refusal_byte d (small c (delta_is M c)), time_bytes d (delta_step_reachable M fs c r).time) (delta_run c)

    counted : Counted (performed M o c)
    unfolding performed settled
    counted =
        by_test Counted (not (is_known o)) _ _ (λ e. unknown)
        (λ e. by_test Counted (eqb o.kind 1) _ _ (λ k. no_step _ (rw (eqb-true o.kind 1 k)) (pick_leads o.argument c (pick_is M c o.argument)))
        (λ e. by_test Counted (eqb o.kind 3) _ _ (λ k. no_step _ (rw (eqb-true o.kind 3 k)) (picks_lead (settles M o.count 0 c).run))
        (λ e. by_test Counted (eqb o.kind 5) _ _ (λ k. no_step _ (rw (eqb-true o.kind 5 k)) (set_leads o.count c (pick_set_is M c o.count)))
        (λ e. by_test Counted (eqb o.kind 6) _ _ (λ k. delta_counted k)
        (λ other. by_test Counted (eqb o.kind 7) _ _
        (λ k. no_step (time_stepped M c) other (time_leads c {r = time_stepped M c} (λ can n e u. by_time can u) (time_is M c)))
        (λ e. no_step _ other (read_leads o.argument c (read_is M c o.argument))))))))

  -- a list of orders, one after the other
  list_run : (fs : Facts M) (os : List Order) (c : Configuration) → Reachable M c → Runs c (steps_at t os (played M os c).answers) (played M os c).end
  unfolding steps_at played_by
  list_run fs [] c r = stay
  list_run fs (o ∷ os) c r =
      let d = (performed M o c).after in
      counted fs c r o (steps_at t os (played M os d).answers) (played M os d).end (list_run fs os d (performed_reachable M fs o c r))

-- item 11, of the records of an accepted model
pub few_of : (M : Model) → Facts M → NoChain (leads_to M) (length M.processes) → waits_later M ≡ true
    → FewSteps (delta_steps M) (length M.processes)
few_of M fs free later =
    let start = first_reachable M fs in
    few_steps (wiring_of M) (kernel_of M) (laws M fs later) free (delta_steps M) (after M) (first M) (sound M fs later (first M) start)
    (λ t os. list_run M t fs os (first M) start)

-- and of its bytes
pub bounded : Bounded
bounded m h = few_of (model_of m) (facts (model_of m) (accepted m h))
