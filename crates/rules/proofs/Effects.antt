-- What an effect of a process can be: `EffectFits`. Assumes nothing.
use mathlib.Core.Path.{◌≡◌, refl}
use mathlib.Core.Logic.{◌⊎◌, inl, inr}
use mathlib.Core.Bool.{true}
use Prim.Native.Nat.{ℕ, ◌<◌}
use native.Mathlib.Omega.{arith}
use lib.Dec.{eqb}
use lib.ListN.{length}
use lib.IntN.{pos, nat_abs}
use lib.Signed.{lt_z}
use borrow.Author.Tests.{eqb-false}
use Rattle.std.specs.Prelude.{Ok, Err}
use Rattle.base.specs.Cases.{◌∣◌, ◌⇒◌}
use Rattle.base.proofs.Below.{◌and◌, among}
use Rattle.base.proofs.Cases.{by_test}
use Rattle.blocks.specs.Records.{Model, signal_at, statement_at}
use Rattle.blocks.specs.declared.records.StatementRecord.{StatementRecord}
use Rattle.fields.specs.Fields.{value_ok, absent}
use Rattle.fields.specs.Facts.{Spans}
use Rattle.trees.specs.Trees.{integer}
use Rattle.model.specs.Owners.{driver_for}
use Rattle.model.specs.Facts as Facts
use Rattle.model.specs.Facts.{Facts, StatementFits, SignalAssignment, NullAssignment, Expression}
use Rattle.rules.specs.declared.driven.Driven.TheVariants.{To, Null}
use Rattle.rules.specs.declared.value.Failure.{Failure}
use Rattle.rules.specs.Values.{Value}
use Rattle.rules.specs.declared.effect.Effect.{Effect}
use Rattle.rules.specs.declared.effect.Effect.TheVariants.{Schedule, Wait, WaitFor, Stop}
use Rattle.rules.specs.declared.mechanism.Mechanism.{Mechanism}
use Rattle.rules.specs.declared.mechanism.Mechanism.TheVariants.{Transport, Inertial}
use Rattle.rules.specs.Configuration.{Configuration, process_in}
use Rattle.rules.specs.declared.moment.Moment.{Moment}
use Rattle.rules.specs.declared.moment.Moment.TheVariants.{Now, DeltaAgo, UnitsAgo}
use Rattle.rules.specs.Evaluation.{Environment, Held, signal_in, environment_of, failure, no_node, int, eval_of}
use Rattle.rules.specs.Failing.{ExpressionFails, FaultNamed}
use Rattle.rules.specs.Statements.{with_value, with_delay, effect_by, effect_of}
use Rattle.rules.specs.Invariant.{EffectFits, ScheduleFits, Reachable}
use Rattle.rules.proofs.Evaluation.{Typed, EnvironmentFits, value_typed}
use Rattle.rules.proofs.Failing.{fault_named}
use Rattle.rules.proofs.Signed.{below_half, not_negative}

-- what holds of every stop that a statement can make
abbrev Stops : Model → (Effect → Type 0) → Type 0
Stops M P = (r : Failure) → ExpressionFails M r ⊎ (r ≡ failure no_node 2) → P (Stop r)

module _ (M : Model) (fs : Facts M) (p : ℕ) where
  module _ (e : Environment) (ok : EnvironmentFits M e) where
    -- what holds after any value of the type, and of a stop, holds after a value
    value_then : (P : Effect → Type 0) (ty n : ℕ) (v : Value) (next : ℕ → Effect) → Typed ty v → FaultNamed M e n v → Stops M P → ((x : ℕ) → value_ok ty x ≡ true → P (next x))
        → P (with_value v next)
    value_then P ty n (Ok x) next h k s g = g x h
    value_then P ty n (Err r) next h k s g = s r (inl k.expression)

    expression : (P : Effect → Type 0) (ty n : ℕ) (next : ℕ → Effect) → Expression M p ty n → Stops M P → ((x : ℕ) → value_ok ty x ≡ true → P (next x)) → P (with_value (eval_of M e n) next)
    expression P ty n next x s g =
        value_then P ty n (eval_of M e n) next (rw x.type at (value_typed M fs e ok n x.node)) (fault_named M fs e n x.node) s g

    -- the same after a delay
    delay : (P : Effect → Type 0) (n : ℕ) (next : ℕ → Effect) → Expression M p integer n → Stops M P → ((d : ℕ) → d < 2147483648 → P (next d)) → P (with_delay (eval_of M e n) next)
    unfolding with_delay
    delay P n next x s g =
        expression P integer n _ x s
        (λ y _. by_test P (lt_z (int y) (pos 0)) _ _ (λ t. s (failure no_node 2) (inr refl)) (λ t. g (nat_abs (int y)) (rw (not_negative y t) (below_half y t))))

    module _ (s : StatementRecord) (f : StatementFits M p s) where
      abbrev Fits : Effect → Type 0
      Fits = EffectFits M p s.kind

      assigned : SignalAssignment M p s → (v d : ℕ) → value_ok (signal_at M s.a).ty v ≡ true → d < 2147483648 → ScheduleFits M p (driver_for M p s.a) d (To v)
      assigned g v d h l =
          let r = fs.drives p s.a g.driver in
          record { driver = g.driver; own = r.process; delay = l; value = rw r.signal h }

      assignment : (m : Mechanism) (kind : ℕ) → SignalAssignment M p s
          → EffectFits M p kind (with_value (eval_of M e s.b) (λ v. with_delay (eval_of M e s.c) (λ d. Schedule (driver_for M p s.a) d (To v) m)))
      assignment m kind g =
          expression (EffectFits M p kind) _ s.b _ g.value (λ f h. h)
          (λ v h. delay (EffectFits M p kind) s.c _ g.delay (λ f h. h) (λ d l. assigned g v d h l))

      released : NullAssignment M p s → (d : ℕ) → d < 2147483648 → ScheduleFits M p (driver_for M p s.a) d Null
      released g d l =
          let r = fs.drives p s.a g.driver in
          record { driver = g.driver; own = r.process; delay = l; value = rw r.signal g.guarded }

      waits : Facts.Wait M p s → EffectFits M p 5 (eqb s.c absent ⇒ Wait ∣ with_delay (eval_of M e s.c) WaitFor)
      waits g =
          by_test (EffectFits M p 5) (eqb s.c absent) _ _ (λ t. refl)
          (λ t. delay (EffectFits M p 5) s.c WaitFor (g.delay (eqb-false s.c absent t)) (λ f h. h) (λ d l. (refl, l)))

      -- what a statement of process p does
      pub effect_by_lem : Fits (effect_by M e p s)
      unfolding effect_by
      effect_by_lem =
          among (λ k. s.kind ≡ k → Fits (effect_by M e p s)) 0 8 s.kind
          ((λ k. rw k tt)
          and (λ k. let g = f.variable_assignment k in
          rw k (expression (EffectFits M p 1) _ s.b _ g.value (λ f h. h) (λ v h. record { variable = g.variable; own = g.own; value = h })))
          and (λ k. rw k (assignment Transport 2 (f.signal_assignment (inl k))))
          and (λ k. let g = f.branch k in
          rw k (expression (EffectFits M p 3) _ s.b _ g.condition (λ f h. h)
          (λ v h. by_test (EffectFits M p 3) (eqb v 0) _ _ (λ t. g.target) (λ t. tt))))
          and (λ k. rw k (f.jump k))
          and (λ k. rw k (waits (f.wait k)))
          and (λ k. let g = f.null_assignment k in
          rw k (delay (EffectFits M p 6) s.c _ g.delay (λ f h. h) (λ d l. released g d l)))
          and (λ k. rw k (assignment Inertial 7 (f.signal_assignment (inr k))))
          and tt)
          (omega arith) (omega (arith, f.kind)) refl

  -- a statement of process p fits it
  pub own_statement : p < length M.processes → (i : ℕ) → Spans M p i → StatementFits M p (statement_at M i)
  own_statement h i s =
      let g = fs.process p h in
      let t = fs.statement i (omega (arith, g.within, s.below)) in
      rw (g.owner i s) at t.fits

module _ (M : Model) (c : Configuration) (r : Reachable M c) where
  pub environment_fits : EnvironmentFits M (environment_of c.variables c.signals c.earlier)
  environment_fits = record { variable = r.variable_values; signal = held }
    where
      held : (s : ℕ) (w : Moment) → s < length M.signals → Held w → value_ok (signal_at M s).ty (signal_in c.signals c.earlier s w) ≡ true
      held s Now h l = r.signal_values s 0 h (omega arith)
      held s DeltaAgo h l = r.earlier_values s h
      held s (UnitsAgo k) h l = r.signal_values s k h (omega arith)

  -- the place of a process is one of its statements
  pub placed : (p : ℕ) → p < length M.processes → Spans M p (process_in c.processes p).place
  placed p h = record { from = (r.each_process p h).from; below = (r.each_process p h).within }

  -- what a process does at its place
  pub effect_fits : Facts M → (p : ℕ) → p < length M.processes → EffectFits M p (statement_at M (process_in c.processes p).place).kind (effect_of M c p)
  unfolding effect_of
  effect_fits fs p h =
      effect_by_lem M fs p (environment_of c.variables c.signals c.earlier) environment_fits (statement_at M (process_in c.processes p).place)
      (own_statement M fs p h (process_in c.processes p).place (placed p h))
