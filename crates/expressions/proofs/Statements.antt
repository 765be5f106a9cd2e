-- What the program finds of a statement: its operands, its driver and its delay. Assumes nothing.
use mathlib.Core.Path.{◌≡◌}
use mathlib.Core.Bool.{true, false}
use mathlib.Core.Logic.{◌⊎◌, inl, inr, ⊎_elim}
use Prim.Native.Nat.{ℕ, ◌+◌, ◌≤◌, ◌<◌}
use native.Mathlib.Omega.{arith}
use lib.ListN.{length}
use borrow.Author.Tests.{lt-ltb, le-ltb}
use mathlib.Core.List.{List}
use lib.IntN.{ℤ, pos}
use lib.Signed.{lt_z}
use mir.Syntax.{w64}
use mir.Val.{to_z, of_z}
use Rattle.std.specs.Prelude.{Ok}
use Rattle.base.proofs.Below.{NoneOf, none_of}
use Rattle.blocks.specs.Records.{Model, process_at, statement_at, model_of}
use Rattle.blocks.specs.declared.records.ProcessRecord.{ProcessRecord}
use Rattle.blocks.specs.declared.records.StatementRecord.{StatementRecord}
use Rattle.fields.specs.Fields.{owner_of}
use Rattle.model.specs.Owners.{driver_for}
use Rattle.model.specs.Facts.{StatementFits}
use Rattle.rules.specs.Statements.{next_place, with_value, with_delay, mechanism_of, effect_by}
use Rattle.rules.specs.declared.effect.Effect.{Effect}
use Rattle.rules.specs.declared.effect.Effect.TheVariants.{Schedule, Stop}
use Rattle.rules.specs.declared.driven.Driven.TheVariants.{To}
use Rattle.rules.specs.Values.{Value}
use Rattle.rules.specs.Evaluation.{Environment, failure, no_node, int, eval_of}
use Rattle.rules.proofs.Signed.{not_negative, int_read}
use Rattle.expressions.specs.Reading.{Runs}

-- an assignment of a value: kinds 2 and 7
pub assigned : (M : Model) (e : Environment) (p : ℕ) (s : StatementRecord) → (s.kind ≡ 2) ⊎ (s.kind ≡ 7)
    → with_value (eval_of M e s.b) (λ v. with_delay (eval_of M e s.c) (λ d. Schedule (driver_for M p s.a) d (To v) (mechanism_of s.kind))) ≡ effect_by M e p s
unfolding effect_by
assigned M e p s = ⊎_elim (λ k. rw k) (λ k. rw k)

-- a delay, r being what `int` returned
module _ {v : Value} {x : ℕ} {r : ℤ} (next : ℕ → Effect) (h : v ≡ Ok x) (l : x < 4294967296) (e : r ≡ int x) where
  pub delay_negative : lt_z (to_z w64 (of_z w64 r)) (pos 0) ≡ true → Stop (failure no_node 2) ≡ with_delay v next
  unfolding with_delay
  delay_negative t = rw (h, simp (int_read x l e) at t)

  pub delay_kept : lt_z (to_z w64 (of_z w64 r)) (pos 0) ≡ false → next x ≡ with_delay v next
  unfolding with_delay
  delay_kept t = let s : lt_z (int x) (pos 0) ≡ false = rw (int_read x l e) at t in rw (h, s, not_negative x s)

-- statement n
module _ {m index : List ℕ} {n : ℕ} (call : Runs m index × (n < length (model_of m).statements)) where
  -- the program read it as s
  module _ {s : StatementRecord} (read : s ≡ statement_at (model_of m) n) where
    pub statement_fits : StatementFits (model_of m) (owner_of (model_of m) n) s
    statement_fits = rw read (call.0.facts.statement n call.1).fits

    -- no other kind, as the last arm knows it: 2 and 7 have one arm
    abbrev NoKind : ℕ → Type 0
    NoKind k = ((((NoneOf k 0 2 × ((k ≡ 2) ⊎ (k ≡ 7) → ⊥)) × (k ≡ 3 → ⊥)) × (k ≡ 4 → ⊥)) × (k ≡ 5 → ⊥)) × (k ≡ 6 → ⊥)

    -- it is never taken
    pub no_statement : {A : Type 0} → NoKind s.kind → A
    no_statement h =
        let l : s.kind < 8 = omega (arith, statement_fits.kind) in
        let a = h.0.0.0.0 in
        absurd (none_of 0 8 s.kind ((((((a.0, λ e. a.1 (inl e)), h.0.0.0.1), h.0.0.1), h.0.1), h.1), λ e. a.1 (inr e)) (omega arith) l)

-- the place after i, r being the record of process p
module _ (M : Model) (p i : ℕ) (r : ProcessRecord) (e : r ≡ process_at M p) where
  pub next_inside : i + 1 < r.first + r.count → i + 1 ≡ next_place M p i
  unfolding next_place
  next_inside h = rw (← e, lt-ltb (i + 1) (r.first + r.count) h)

  pub next_first : r.first + r.count ≤ i + 1 → r.first ≡ next_place M p i
  unfolding next_place
  next_first h = rw (← e, le-ltb (i + 1) (r.first + r.count) h)
