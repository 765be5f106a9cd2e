-- What an effect of a statement says of its c: a transaction due now comes of an assignment whose c is not a constant above 0, and
-- a wait with a constant c above 0 sets a later deadline. Assumes nothing.
use mathlib.Core.Path.{◌≡◌, refl}
use mathlib.Core.Bool.{true}
use mathlib.Core.Logic.{◌≢◌}
use Prim.Native.Nat.{ℕ, ◌≤◌, ◌<◌}
use native.Mathlib.Omega.{arith}
use lib.Dec.{eqb}
use lib.IntN.{pos, nat_abs}
use lib.Signed.{lt_z}
use borrow.Author.Tests.{eqb-true, eqb-false, ltb-true}
use Rattle.std.specs.Prelude.{Ok, Err}
use Rattle.base.specs.Course.{course}
use Rattle.base.proofs.Below.{◌and◌, among, and_left, and_right}
use Rattle.base.proofs.Cases.{by_test}
use Rattle.blocks.specs.Records.{Model, node_at}
use Rattle.blocks.specs.declared.records.StatementRecord.{StatementRecord}
use Rattle.fields.specs.Fields.{absent}
use Rattle.model.specs.Owners.{driver_for}
use Rattle.leads.specs.Leads.{constant_above0, is_assignment}
use Rattle.rules.specs.declared.driven.Driven.TheVariants.{To}
use Rattle.rules.specs.declared.mechanism.Mechanism.{Mechanism}
use Rattle.rules.specs.declared.mechanism.Mechanism.TheVariants.{Transport, Inertial}
use Rattle.rules.specs.declared.value.Failure.{Failure}
use Rattle.rules.specs.Values.{Value}
use Rattle.rules.specs.declared.effect.Effect.{Effect}
use Rattle.rules.specs.declared.effect.Effect.TheVariants.{Skip, Store, Schedule, Jump, Wait, WaitFor, Stop}
use Rattle.rules.specs.Evaluation.{Environment, failure, no_node, int, value_by, next_value, eval_of}
use Rattle.rules.specs.Statements.{with_value, with_delay, effect_by}
use Rattle.rules.proofs.Signed.{not_negative}

-- a constant node's value is its constant
constant_value : (M : Model) (e : Environment) (n : ℕ) → (node_at M n).kind ≡ 1 → eval_of M e n ≡ Ok (node_at M n).k
unfolding eval_of course next_value value_by
constant_value M e n k = rw k

-- what holds of every stop, and after any value, holds after a value
value_then : (P : Effect → Type 0) (v : Value) (next : ℕ → Effect) → ((f : Failure) → P (Stop f)) → ((x : ℕ) → v ≡ Ok x → P (next x)) → P (with_value v next)
value_then P (Ok x) next s g = g x refl
value_then P (Err f) next s g = s f

-- what an effect of a statement of process p says of the statement, of that kind and with that a and c
module _ (M : Model) (p kind a c : ℕ) where
  -- d is no delay of 0 where c is a constant above 0
  abbrev pub Delays : ℕ → Type 0
  Delays d = constant_above0 M c ≡ true → d ≢ 0

  pub record Sends (k d : ℕ) : Type 0 where
    pub assignment : is_assignment kind ≡ true
    pub driver : k ≡ driver_for M p a
    pub delay : Delays d

  pub record Sleeps (d : ℕ) : Type 0 where
    pub waits : kind ≡ 5
    pub for : c ≢ absent
    pub delay : Delays d

  abbrev pub Says : Effect → Type 0
  Says Skip = Unit {0}
  Says (Store b v) = Unit {0}
  Says (Schedule k d v m) = Sends k d
  Says (Jump b) = Unit {0}
  Says Wait = Unit {0}
  Says (WaitFor d) = Sleeps d
  Says (Stop f) = Unit {0}

module _ (M : Model) (e : Environment) where
  delay_then : (P : Effect → Type 0) (n : ℕ) (next : ℕ → Effect) → ((f : Failure) → P (Stop f))
      → ((d : ℕ) → (constant_above0 M n ≡ true → d ≢ 0) → P (next d)) → P (with_delay (eval_of M e n) next)
  unfolding with_delay constant_above0
  delay_then P n next s g =
      value_then P (eval_of M e n) _ s
      (λ x v. by_test P (lt_z (int x) (pos 0)) _ _ (λ t. s (failure no_node 2))
      (λ t. g (nat_abs (int x))
      (λ c z.
      let k : (node_at M n).kind ≡ 1 = eqb-true _ 1 (and_left _ _ c) in
      let same : x ≡ (node_at M n).k = cc (constant_value M e n k) in
      let bounds = and_right (eqb (node_at M n).kind 1) _ c in
      let above : 0 < (node_at M n).k = ltb-true 0 (node_at M n).k (and_left _ _ bounds) in
      omega (arith, not_negative x t))))

  module _ (p : ℕ) (s : StatementRecord) where
    abbrev SaysAs : ℕ → Effect → Type 0
    SaysAs kind = Says M p kind s.a s.c

    -- an assignment of a value
    assigned : (kind : ℕ) (m : Mechanism) → is_assignment kind ≡ true
        → SaysAs kind (with_value (eval_of M e s.b) (λ v. with_delay (eval_of M e s.c) (λ d. Schedule (driver_for M p s.a) d (To v) m)))
    assigned kind m h =
        value_then (SaysAs kind) (eval_of M e s.b) _ (λ f. tt)
        (λ x v. delay_then (SaysAs kind) s.c _ (λ f. tt) (λ d l. record { assignment = h; driver = refl; delay = l }))

    pub says : s.kind ≤ 7 → SaysAs s.kind (effect_by M e p s)
    unfolding effect_by
    says most =
        among (λ k. s.kind ≡ k → SaysAs s.kind (effect_by M e p s)) 0 8 s.kind
        ((λ k. rw k tt)
        and (λ k. rw k (value_then (SaysAs 1) (eval_of M e s.b) _ (λ f. tt) (λ x v. tt)))
        and (λ k. rw k (assigned 2 Transport refl))
        and (λ k. rw k (value_then (SaysAs 3) (eval_of M e s.b) _ (λ f. tt) (λ x v. by_test (SaysAs 3) (eqb x 0) _ _ (λ t. tt) (λ t. tt))))
        and (λ k. rw k tt)
        and (λ k. rw k (by_test (SaysAs 5) (eqb s.c absent) _ _ (λ t. tt)
        (λ t. delay_then (SaysAs 5) s.c WaitFor (λ f. tt) (λ d h. record { waits = refl; for = eqb-false s.c absent t; delay = h }))))
        and (λ k. rw k (delay_then (SaysAs 6) s.c _ (λ f. tt) (λ d h. record { assignment = refl; driver = refl; delay = h })))
        and (λ k. rw k (assigned 7 Inertial refl))
        and tt)
        (omega arith) (omega arith) refl
