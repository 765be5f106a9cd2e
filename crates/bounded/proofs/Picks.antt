-- What a pick does not bring: a ready process, a deadline due now, and a transaction due now but by an assignment without delay.
-- Assumes nothing.
use mathlib.Core.Path.{◌≡◌, refl, sym, ◌∙◌}
use mathlib.Core.Bool.{Bool, true, false, true≢false}
use mathlib.Core.Logic.{◌⊎◌, inl, inr, ⊎_elim}
use Prim.Native.Nat.{ℕ, ◌+◌, ◌<◌}
use native.Mathlib.Decide.{ℕ_discrete}
use native.Mathlib.Omega.{arith}
use lib.ListN.{length}
use lib.Seq.{get_or-set_same}
use borrow.Author.Tests.{eqb-true, eq-eqb, ne_eqb}
use Rattle.base.proofs.Below.{all_at}
use Rattle.base.proofs.Cases.{either_way}
use Rattle.blocks.specs.Records.{Model, driver_at, statement_at}
use Rattle.blocks.specs.declared.records.StatementRecord.{StatementRecord}
use Rattle.fields.specs.Fields.{absent}
use Rattle.fields.specs.Facts.{Spans}
use Rattle.model.specs.Facts.{Facts}
use Rattle.leads.specs.Leads.{constant_above0, without_delay, wait_later, waits_later}
use Rattle.rules.specs.declared.effect.Effect.{Effect}
use Rattle.rules.specs.declared.effect.Effect.TheVariants.{Skip, Store, Schedule, Jump, Wait, WaitFor, Stop}
use Rattle.rules.specs.Configuration.{Configuration, driver_in, process_in}
use Rattle.rules.specs.Evaluation.{environment_of}
use Rattle.rules.specs.Statements.{drivers_after, process_after, applied, stepped, effect_of}
use Rattle.rules.specs.Steps.{transaction_due, deadline_due}
use Rattle.rules.specs.Orders.{is_ready, picked}
use Rattle.rules.specs.Invariant.{Reachable}
use Rattle.rules.proofs.Outcomes.{pick_of_ready}
use Rattle.rules.proofs.Effects.{own_statement, placed, effect_fits}
use Rattle.rules.proofs.Picks.{process_stays, standing_stays}
use Rattle.bounded.specs.Bounded.{kernel_of}
use Rattle.bounded.proofs.Waves.{Puts, due_driver}
use Rattle.bounded.proofs.Effects.{Says, says}
use Rattle.bounded.proofs.Outcomes.{Picks, picks_of}
use Rattle.bounded.proofs.Wiring.{Due, Expires, Assigns}

module _ (M : Model) (fs : Facts M) (c : Configuration) (r : Reachable M c) (p : ℕ) (x : Picks M c p) where
  abbrev place : ℕ
  place = (process_in c.processes p).place

  abbrev statement : StatementRecord
  statement = statement_at M place

  span : Spans M p place
  span = placed M c r p x.there

  -- what the statement's effect says of it
  abbrev Said : Effect → Type 0
  Said = Says M p statement.kind statement.a statement.c

  said : Said (effect_of M c p)
  unfolding effect_of
  said = says M (environment_of c.variables c.signals c.earlier) p statement (own_statement M fs p x.there place span).kind

  pub ready_before : (q : ℕ) → (kernel_of M).can_pick p c ≡ true → (kernel_of M).can_pick q (picked M p c).after ≡ true → (kernel_of M).can_pick q c ≡ true
  ready_before q can h =
      elim (ℕ_discrete q p) [
        | yes e ↦ rw e can
        | no d ↦
            let y = picks_of M (picked M p c).after q h in
            let g : is_ready q (stepped M p c) ≡ true = rw x.step at y.ready in
            rw (pick_of_ready M c q y.there (sym (standing_stays M p q c (λ e. d (sym e))) ∙ g))
      ]

  -- an assignment that brings a transaction due now
  assigning : (k : ℕ) → k < length M.drivers → Puts k (effect_of M c p) → ((driver_at M k).process ≡ p) × Assigns M p (driver_at M k).signal
  unfolding without_delay
  assigning k h (v, m, e) =
      let s = rw e at said in
      let d = fs.drives p statement.a (rw s.driver at h) in
      let slow : constant_above0 M statement.c ≡ false = either_way (constant_above0 M statement.c) (λ t. absurd (s.delay t refl)) (λ t. t) in (
        rw s.driver d.process,
        record { at = place; span = span; soon = rw (s.assignment, slow); signal = rw s.driver (sym d.signal) },
      )

  pub due_before : (k : ℕ) → Due M k (picked M p c).after → Due M k c ⊎ (((driver_at M k).process ≡ p) × Assigns M p (driver_at M k).signal)
  unfolding stepped applied
  due_before k d =
      let n : transaction_due c.time (driver_in (drivers_after (effect_of M c p) c.time c.drivers) k) ≡ true = rw x.step at d.now in
      let l : k < length c.drivers = omega (arith, d.there, r.drivers) in
      ⊎_elim
      (λ (b : transaction_due c.time (driver_in c.drivers k) ≡ true). inl (record { there = d.there; now = b }))
      (λ (b : Puts k (effect_of M c p)). inr (assigning k d.there b))
      (due_driver M p statement.kind c.time r.time c.drivers k l (r.each_driver k d.there).rising (effect_of M c p)
      (effect_fits M c r fs p x.there) n)

  -- where every wait has no c or a constant c above 0, no deadline is set to now
  module _ (later : waits_later M ≡ true) where
    not_now : (e : Effect) (full : Bool) (next : ℕ) → Said e
        → deadline_due c.time (process_after e full c.time next (process_in c.processes p)) ≡ true
        → deadline_due c.time (process_in c.processes p) ≡ true
    unfolding deadline_due waits_later wait_later
    not_now Skip full next s d = d
    not_now (Store a v) full next s d = d
    not_now (Schedule k n v m) true next s d = d
    not_now (Schedule k n v m) false next s d = d
    not_now (Jump a) full next s d = d
    not_now Wait full next s d = absurd (true≢false (sym d))
    not_now (WaitFor n) full next s d =
        let zero-delay : n ≡ 0 = omega (arith, eqb-true (c.time + n) c.time d) in
        let there : place < length M.statements = omega (arith, (fs.process p x.there).within, span.below) in
        let w = all_at (λ n. wait_later M (statement_at M n)) (length M.statements) place there later in
        absurd (s.delay (rw (eq-eqb statement.kind 5 s.waits, ne_eqb statement.c absent s.for) at w) zero-delay)
    not_now (Stop f) full next s d = d

    pub expires_before : (q : ℕ) → Expires M q (picked M p c).after → Expires M q c
    unfolding stepped applied
    expires_before q d =
        let n : deadline_due c.time (process_in (stepped M p c).processes q) ≡ true = rw x.step at d.now in
        elim (ℕ_discrete q p) [
          | yes e ↦
              let l : p < length c.processes = omega (arith, x.there, r.processes) in
              record { there = d.there; now = rw e (not_now (effect_of M c p) _ _ said (rw (e, get_or-set_same c.processes p _ _ l) at n)) }
          | no o ↦ record { there = d.there; now = rw (process_stays M p q (effect_of M c p) (λ e. o (sym e)) c) at n }
        ]

  pub pick_leaves : (picked M p c).after.time ≡ c.time
  unfolding stepped applied
  pick_leaves = rw x.step
