-- What a delta step and a time step are, by what the code finds among the struct's numbers: the earliest due time, and the refusal
-- or 0. Assumes nothing.
use mathlib.Core.Path.{◌≡◌, refl, sym, ap, ◌∙◌}
use mathlib.Core.Option.{Option, none, some}
use Prim.Native.Nat.{ℕ, ◌≤◌, ◌<◌}
use native.Mathlib.Omega.{arith}
use lib.Dec.{eqb, leb, ltb}
use borrow.Author.Tests.{eqb-true, eqb-false, leb-false, ltb-false}
use Rattle.base.specs.Cases.{◌∣◌, ◌⇒◌}
use Rattle.base.proofs.Cases.{either_way}
use Rattle.blocks.specs.Records.{Model}
use Rattle.model.specs.Facts.{Facts}
use Rattle.rules.specs.Configuration.{Configuration, last_time}
use Rattle.rules.specs.Steps.{delta_step, time_step}
use Rattle.rules.specs.Orders.{Outcome, refused, is_ready, is_stopped, earliest, due_times, due_now, advance_done, advancing, delta_order, time_order, delta_stepped, time_stepped}
use Rattle.rules.proofs.DueTimes.{due_within}
use Rattle.waveforms.specs.Pending.{never, NoneBefore}
use Rattle.due.specs.Due.{soonest_in, some_is, standing_refusal, delta_refusal, time_refusal}
use Rattle.cycle.specs.View.{view_of, Valid, outcome_of, Answers, Keeps}
use Rattle.cycle.specs.declared.config.Config.{Config}
use Rattle.cycle.specs.declared.orders.Answered.{Answered}
use Rattle.cycle.proofs.ViewLaws.{nsignals_is, ndrivers_is, nprocesses_is}
use Rattle.cycle.proofs.Soonest.{or_never, soonest, no_first_before, no_deadline_before, due_now_lem, standing_is}

-- the totals of the struct are within the limits
module _ {M : Model} {c : Config} (k : Facts M) (f : Valid M c) where
  pub few_signals : c.nsignals ≤ 32
  few_signals = rw (nsignals_is M c f.reachable) k.totals.signals

  pub few_drivers : c.ndrivers ≤ 64
  few_drivers = rw (ndrivers_is M c f.reachable) k.totals.drivers

  pub few_processes : c.nprocesses ≤ 16
  few_processes = rw (nprocesses_is M c f.reachable) k.totals.processes

module _ (M : Model) (c : Config) (f : Valid M c) where
  abbrev v : Configuration
  v = view_of c

  -- the number n says what an order comes to: it is refused with n, or n is 0 and it is done, which `Done` tells
  pub record Says (Done : Outcome → Type 0) (n : ℕ) (r : Outcome) : Type 0 where
    pub refuses : (n ≡ 0 → ⊥) → r ≡ refused n v
    pub does : n ≡ 0 → Done r

  refusing : {Done : Outcome → Type 0} (n : ℕ) → (n ≡ 0 → ⊥) → Says Done n (refused n v)
  refusing n h = record { refuses = λ z. refl; does = λ z. absurd (h z) }

  doing : {Done : Outcome → Type 0} {r : Outcome} → Done r → Says Done 0 r
  doing d = record { refuses = λ z. absurd (z refl); does = λ z. d }

  -- a refused order answers as it says
  pub says_refused : {Done : Outcome → Type 0} {n : ℕ} {r : Outcome} → Says Done n r → (n ≡ 0 → ⊥) → (a : Answered) → outcome_of a ≡ refused n v → Keeps c a → Answers M a r
  says_refused s h a e k = rw (s.refuses h) (record { is = e; valid = k M f })

  -- what the search for the earliest due time asks for
  pub searchable : Facts M → (c.nprocesses ≤ 16) × ((c.ndrivers ≤ 64) × (NoneBefore c.time c.due c.ndrivers × NoneBefore c.time c.deadlines c.nprocesses))
  searchable k = (few_processes k f, (few_drivers k f, (no_first_before M c f, no_deadline_before M c f)))

  -- 14 and 15 go before it
  by_standing : (Done : Outcome → Type 0) (n : ℕ) (r : Outcome) → Says Done n r → Says Done (standing_refusal c.standings c.nprocesses n) (advancing M v r)
  unfolding standing_refusal is_ready is_stopped
  by_standing Done n r k =
      rw (← standing_is M c 0 f, ← standing_is M c 2 f)
      (either_way (some_is c.standings c.nprocesses 0)
      (λ q. rw q (refusing 14 (λ z. omega arith)))
      (λ q. either_way (some_is c.standings c.nprocesses 2) (λ s. rw (q, s) (refusing 15 (λ z. omega arith))) (λ s. rw (q, s) k)))

  -- a delta step is done
  pub record DeltaDue (r : Outcome) : Type 0 where
    pub few : c.deltas < 1000
    pub is : r ≡ advance_done 1 (delta_step M v)

  -- a time step to t is done
  pub record TimeDue (t : ℕ) (r : Outcome) : Type 0 where
    pub earliest_at : earliest (due_times M v) ≡ some t
    pub in_time : t ≤ last_time
    pub from_now : c.time ≤ t
    pub is : r ≡ advance_done 2 (time_step t v)

  -- t is the earliest due time
  module _ (t : ℕ) (e : t ≡ soonest_in c.due c.ndrivers c.deadlines c.nprocesses) where
    now_is : due_now M v ≡ eqb t c.time
    now_is = due_now_lem M c f ∙ rw (← e)

    delta_order_lem : Says DeltaDue (leb 1000 c.deltas ⇒ 16 ∣ 0) (delta_order M v)
    unfolding view_of
    delta_order_lem =
        either_way (leb 1000 c.deltas) (λ h. rw h (refusing 16 (λ z. omega arith)))
        (λ h. rw h (doing (record { few = leb-false _ _ h; is = refl })))

    pub delta_says : (n : ℕ) → n ≡ delta_refusal c.standings c.nprocesses t c.time c.deltas → Says DeltaDue n (delta_stepped M v)
    unfolding delta_refusal delta_stepped
    delta_says n told =
        rw told
        (by_standing DeltaDue _ _
        (rw now_is
        (either_way (eqb t c.time) (λ h. rw h delta_order_lem) (λ h. rw h (refusing 22 (λ z. omega arith))))))

    earliest_is : t ≡ or_never (earliest (due_times M v))
    earliest_is = e ∙ soonest M c f

    none_by : (o : Option ℕ) → earliest (due_times M v) ≡ o → or_never o ≡ never → time_order o v ≡ refused 17 v
    none_by none h z = refl
    none_by (some u) h z = let w = due_within M v f.reachable u h in absurd (omega (arith, w.most))

    some_by : (o : Option ℕ) → t ≡ or_never o → (t ≡ never → ⊥) → o ≡ some t
    some_by none h z = absurd (z h)
    some_by (some u) h z = ap some (sym h)

    time_order_lem : Says (TimeDue t) (eqb t never ⇒ 17 ∣ ltb last_time t ⇒ 18 ∣ 0) (time_order (earliest (due_times M v)) v)
    time_order_lem =
        either_way (eqb t never)
        (λ h. rw (h, none_by (earliest (due_times M v)) refl (sym earliest_is ∙ eqb-true t never h)) (refusing 17 (λ z. omega arith)))
        (λ h.
        let at = some_by (earliest (due_times M v)) earliest_is (eqb-false t never h) in
        rw (h, at)
        (either_way (ltb last_time t)
        (λ l. rw l (refusing 18 (λ z. omega arith)))
        (λ l. rw l (doing (record { earliest_at = at; in_time = ltb-false _ _ l; from_now = unfold view_of in (due_within M v f.reachable t at).from; is = refl })))))

    pub time_says : (n : ℕ) → n ≡ time_refusal c.standings c.nprocesses t c.time → Says (TimeDue t) n (time_stepped M v)
    unfolding time_refusal time_stepped
    time_says n told =
        rw told
        (by_standing (TimeDue t) _ _
        (rw now_is
        (either_way (eqb t c.time) (λ h. rw h (refusing 23 (λ z. omega arith))) (λ h. rw h time_order_lem))))
