-- The processes of a delta step: what wakes one, and the loop over all of them. Assumes nothing.
use mathlib.Core.Path.{◌≡◌, refl, sym, ap, ◌∙◌, subst}
use mathlib.Core.Bool.{Bool, true, false, ◌&&◌}
use mathlib.Core.Option.{Option, none, some}
use Prim.Native.Nat.{ℕ, ◌+◌, ◌≤◌, ◌<◌}
use native.Mathlib.Decide.{ℕ_discrete}
use native.Mathlib.Omega.{arith}
use lib.Dec.{eqb}
use lib.ListN.{length, set, length-set}
use lib.Seq.{get_or-set_same, get_or-set_other}
use borrow.Author.Tests.{eqb-true, eq-eqb, ne_eqb}
use Rattle.std.specs.Prelude.{Ok, Err}
use Rattle.base.specs.Below.{any_below}
use Rattle.base.proofs.Cases.{by_test}
use Rattle.sets.specs.Sets.{in_set}
use Rattle.blocks.specs.Records.{Model, statement_at}
use Rattle.blocks.specs.declared.records.StatementRecord.{StatementRecord}
use Rattle.fields.specs.Fields.{absent}
use Rattle.fields.specs.Facts.{Spans}
use Rattle.model.specs.Facts.{Facts}
use Rattle.rules.specs.Values.{Value}
use Rattle.rules.specs.declared.value.Failure.{Failure}
use Rattle.rules.specs.Configuration.{ProcessState, waiting, last_time}
use Rattle.rules.specs.Evaluation.{Environment, eval_of}
use Rattle.rules.specs.Statements.{stops}
use Rattle.rules.specs.Steps.{deadline_at, deadline_due, wakes, woken_by}
use Rattle.rules.specs.Invariant.{ProcessValid}
use Rattle.rules.proofs.Effects.{own_statement}
use Rattle.waveforms.specs.Pending.{never}
use Rattle.steps.specs.Entries.{deadline_of}
use Rattle.steps.specs.Delta.{state_of, entry_of, woken_for, woken_in, after_delta, ProcessesValid, WokenTo}
use Rattle.steps.specs.declared.delta.Process.{Process}
use Rattle.steps.specs.declared.delta.Processes.{Processes}

-- a deadline of the struct is due where it is the time: no time is the number that stands for none
pub due_is : (t d : ℕ) → t ≤ last_time → deadline_at t (deadline_of d) ≡ eqb d t
due_is t d h =
    by_test (λ (o : Option ℕ). deadline_at t o ≡ eqb d t) (eqb d never) none (some d)
    (λ e. sym (ne_eqb d t (λ q. omega (arith, eqb-true d never e))))
    (λ e. refl)

-- by the value of the condition
module _ (M : Model) (p : ℕ) (q : ProcessState) (v : Value) where
  pub by_fault : (f : Failure) → v ≡ Err f → stops q f ≡ woken_by M p q v
  by_fault f e = rw e

-- by the condition b of the wait
module _ (M : Model) (p : ℕ) (e : Environment) (b : ℕ) (q : ProcessState) where
  pub for_absent : (r : ProcessState) → b ≡ absent → r ≡ wakes M p q → r ≡ woken_for M p e b q
  unfolding woken_for
  for_absent r h is = rw (eq-eqb b absent h) is

  pub for_value : (v : Value) (r : ProcessState) → (b ≡ absent → ⊥) → v ≡ eval_of M e b → r ≡ woken_by M p q v → r ≡ woken_for M p e b q
  unfolding woken_for
  for_value v r h n is = rw (ne_eqb b absent h, ← n) is

-- a process that waits is at a wait of its own
module _ (M : Model) (fs : Facts M) (p t : ℕ) (h : p < length M.processes) (q : Process) (f : ProcessValid M p t (state_of q)) where
  pub at_place : Spans M p q.place
  at_place = record { from = f.from; below = f.within }

  pub condition_there : (w : StatementRecord) → w ≡ statement_at M q.place → q.standing ≡ waiting → (w.b ≡ absent → ⊥) → w.b < length M.nodes
  condition_there w e s b =
      let x : (statement_at M q.place).b < length M.nodes = (((own_statement M fs p h q.place at_place).wait (f.at_wait s)).condition (λ z. b (rw e z))).node in
      rw e x

-- process p of state q in the five cases
module _ (M : Model) (p t changed : ℕ) (e : Environment) (q : Process) where
  abbrev After : ProcessState → Type 0
  After r = r ≡ after_delta M p t changed e (state_of q)

  pub not_waiting : (q.standing ≡ waiting → ⊥) → After (state_of q)
  unfolding after_delta
  not_waiting h = rw (ne_eqb q.standing waiting h)

  module _ (h : t ≤ last_time) (w : q.standing ≡ waiting) where
    pub at_deadline : (r : ProcessState) → q.deadline ≡ t → r ≡ wakes M p (state_of q) → After r
    unfolding after_delta woken_in deadline_due
    at_deadline r d is = rw (eq-eqb q.standing waiting w, due_is t q.deadline h, eq-eqb q.deadline t d) is

    module _ (n : q.deadline ≡ t → ⊥) (s : StatementRecord) (is : s ≡ statement_at M q.place) where
      abbrev meets : Bool
      meets = any_below (λ n. in_set s.set n && in_set changed n) 32

      pub after_change : (r : ProcessState) → meets ≡ true → r ≡ woken_for M p e s.b (state_of q) → After r
      unfolding after_delta woken_in deadline_due
      after_change r m e = rw (eq-eqb q.standing waiting w, due_is t q.deadline h, ne_eqb q.deadline t n, ← is, m) e

      pub no_change : meets ≡ false → After (state_of q)
      unfolding after_delta woken_in deadline_due
      no_change m = rw (eq-eqb q.standing waiting w, due_is t q.deadline h, ne_eqb q.deadline t n, ← is, m)

-- a process whose standing stays is as it was: one that waits can only become ready or stop
module _ (M : Model) (p t changed : ℕ) (e : Environment) (q : ProcessState) where
  abbrev Stays : ProcessState → Type 0
  Stays r = r.standing ≡ q.standing → r ≡ q

  module _ (w : q.standing ≡ waiting) where
    woken_stays : Stays (wakes M p q)
    woken_stays h = absurd (omega (arith, h ∙ w))

    by_value : (v : Value) → Stays (woken_by M p q v)
    by_value (Err f) = λ h. absurd (omega (arith, h ∙ w))
    by_value (Ok x) = by_test Stays (eqb x 1) (wakes M p q) q (λ _. woken_stays) (λ _ h. refl)

    waiting_stays : (s : StatementRecord) → Stays (woken_in M p t changed e s q)
    unfolding woken_in woken_for
    waiting_stays s =
        by_test Stays (deadline_due t q) (wakes M p q) _ (λ _. woken_stays)
        (λ _. by_test Stays (any_below (λ n. in_set s.set n && in_set changed n) 32) _ q
        (λ _. by_test Stays (eqb s.b absent) (wakes M p q) _ (λ _. woken_stays) (λ _. by_value (eval_of M e s.b)))
        (λ _ h. refl))

  pub stays : Stays (after_delta M p t changed e q)
  unfolding after_delta
  stays = by_test Stays (eqb q.standing waiting) _ q (λ w. waiting_stays (eqb-true q.standing waiting w) (statement_at M q.place)) (λ _ h. refl)

-- the arrays have room for 16
pub record Sixteen (ps : Processes) : Type 0 where
  pub places : length ps.places ≡ 16
  pub standings : length ps.standings ≡ 16
  pub deadlines : length ps.deadlines ≡ 16
  pub faults : length ps.faults ≡ 16
  pub nodes : length ps.nodes ≡ 16

-- the loop before process p
pub record Waking (M : Model) (t changed : ℕ) (e : Environment) (ps : Processes) (p : ℕ) (r : Processes) : Type 0 where
  pub long : Sixteen r
  pub done : WokenTo M t changed e p ps r

-- the processes with process p changed to q
abbrev pub with_entry : Processes → ℕ → Process → Processes
with_entry ps p q =
    record {
      places = set ps.places p q.place;
      standings = set ps.standings p q.standing;
      deadlines = set ps.deadlines p q.deadline;
      faults = set ps.faults p q.fault;
      nodes = set ps.nodes p q.node;
    }

module _ (ps : Processes) (p : ℕ) (q : Process) where
  with_long : Sixteen ps → Sixteen (with_entry ps p q)
  with_long l =
      record {
        places = length-set ps.places p q.place ∙ l.places;
        standings = length-set ps.standings p q.standing ∙ l.standings;
        deadlines = length-set ps.deadlines p q.deadline ∙ l.deadlines;
        faults = length-set ps.faults p q.fault ∙ l.faults;
        nodes = length-set ps.nodes p q.node ∙ l.nodes;
      }

  with_same : Sixteen ps → p < 16 → entry_of (with_entry ps p q) p ≡ q
  with_same l h =
      let a : p < length ps.places = omega (arith, l.places) in
      let b : p < length ps.standings = omega (arith, l.standings) in
      let c : p < length ps.deadlines = omega (arith, l.deadlines) in
      let d : p < length ps.faults = omega (arith, l.faults) in
      let e : p < length ps.nodes = omega (arith, l.nodes) in
      rw (
        get_or-set_same ps.places p q.place 0 a,
        get_or-set_same ps.standings p q.standing 0 b,
        get_or-set_same ps.deadlines p q.deadline 0 c,
        get_or-set_same ps.faults p q.fault 0 d,
        get_or-set_same ps.nodes p q.node 0 e,
      )

  with_other : (i : ℕ) → (i ≡ p → ⊥) → entry_of (with_entry ps p q) i ≡ entry_of ps i
  with_other i n =
      rw (
        get_or-set_other ps.places p i q.place 0 n,
        get_or-set_other ps.standings p i q.standing 0 n,
        get_or-set_other ps.deadlines p i q.deadline 0 n,
        get_or-set_other ps.faults p i q.fault 0 n,
        get_or-set_other ps.nodes p i q.node 0 n,
      )

module _ (M : Model) (t changed : ℕ) (e : Environment) (ps : Processes) where
  pub waking_none : Sixteen ps → Waking M t changed e ps 0 ps
  waking_none l = record { long = l; done = record { at = λ i h. absurd (omega arith); left = λ i h. refl } }

  -- the next process is one as it was
  pub waking_valid : (p n : ℕ) (r : Processes) → p < n → ProcessesValid M t n ps → Waking M t changed e ps p r → ProcessValid M p t (state_of (entry_of r p))
  waking_valid p n r h f w = subst (λ (x : Process). ProcessValid M p t (state_of x)) (sym (w.done.left p (omega arith))) (f.at p h)

  pub waking_more : (p : ℕ) (r : Processes) (q : Process) → p < 16 → state_of q ≡ after_delta M p t changed e (state_of (entry_of r p)) → Waking M t changed e ps p r → Waking M t changed e ps (p + 1) (with_entry r p q)
  waking_more p r q h is w =
      record {
        long = with_long r p q w.long;
        done = record { at = at; left = λ i l. with_other r p q i (λ z. omega arith) ∙ w.done.left i (omega arith) };
      }
    where
      here : state_of (entry_of (with_entry r p q) p) ≡ after_delta M p t changed e (state_of (entry_of ps p))
      here = ap state_of (with_same r p q w.long h) ∙ is ∙ ap (λ (x : Process). after_delta M p t changed e (state_of x)) (w.done.left p (omega arith))

      at : (i : ℕ) → i < p + 1 → state_of (entry_of (with_entry r p q) i) ≡ after_delta M i t changed e (state_of (entry_of ps i))
      at i l =
          elim (ℕ_discrete i p) [
            | yes z ↦ rw z here
            | no z ↦ ap state_of (with_other r p q i z) ∙ w.done.at i (omega (arith, z))
          ]

  -- the next process stays as it was
  pub waking_same : (p : ℕ) (r : Processes) (q : Process) → state_of q ≡ after_delta M p t changed e (state_of (entry_of r p)) → q.standing ≡ (entry_of r p).standing
      → Waking M t changed e ps p r → Waking M t changed e ps (p + 1) r
  waking_same p r q is h w = record { long = w.long; done = record { at = at; left = λ i l. w.done.left i (omega arith) } }
    where
      here : state_of (entry_of r p) ≡ after_delta M p t changed e (state_of (entry_of ps p))
      here =
          sym (stays M p t changed e (state_of (entry_of r p)) (ap (λ (x : ProcessState). x.standing) (sym is) ∙ h))
          ∙ ap (λ (x : Process). after_delta M p t changed e (state_of x)) (w.done.left p (omega arith))

      at : (i : ℕ) → i < p + 1 → state_of (entry_of r i) ≡ after_delta M i t changed e (state_of (entry_of ps i))
      at i l = elim (ℕ_discrete i p) [ yes z ↦ rw z here | no z ↦ w.done.at i (omega (arith, z)) ]

  pub waking_all : (p n : ℕ) (r : Processes) → p ≤ n → n ≤ p → Waking M t changed e ps p r → WokenTo M t changed e n ps r
  waking_all p n r k h w = record { at = λ i l. w.done.at i (omega arith); left = λ i l. w.done.left i (omega arith) }
