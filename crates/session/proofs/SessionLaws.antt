-- Laws of a session: which number it has, and what it is where it is refused and where it is played. Assumes nothing.
use mathlib.Core.Path.{◌≡◌, refl, sym, ◌∙◌}
use mathlib.Core.Bool.{true, false}
use mathlib.Core.List.{List}
use Prim.Native.Nat.{ℕ, ◌*◌, ◌/◌, ◌%◌, ◌≤◌}
use native.Mathlib.Omega.{arith}
use borrow.Author.Tests.{eqb-true, leb-true, eq-eqb, ne_eqb}
use lib.Dec.{eqb, leb}
use lib.ListN.{length}
use Rattle.base.specs.Rules.{first_failing}
use Rattle.base.proofs.Below.{and_left, and_right}
use Rattle.base.proofs.Rules.{none_left, passes, fails, none_fails}
use Rattle.blocks.specs.Records.{model_of}
use Rattle.model.specs.Rules.{refusal_of}
use Rattle.model.proofs.Rules.{model_decides, others_decide}
use Rattle.rules.specs.Configuration.{first, empty}
use Rattle.cycle.specs.View.{view_of}
use Rattle.session.specs.declared.Ended.{Ended}
use Rattle.session.specs.Sessions.{orders_ok, buffer_ok, length_rules, number_of, session_of, PlayedTo, SessionIs}

module _ (orders buffer : List ℕ) where
  -- 9 applies
  pub nine : orders_ok orders ≡ false → 9 ≡ first_failing (length_rules orders buffer)
  nine h = fails 9 _ _ refl h

  module _ (h : orders_ok orders ≡ true) where
    pub orders_few : length orders ≤ 16384
    unfolding orders_ok
    orders_few = leb-true _ _ (and_right (eqb (length orders % 4) 0) _ h)

    -- 10 applies
    pub ten : buffer_ok orders buffer ≡ false → 10 ≡ first_failing (length_rules orders buffer)
    ten k = fails 10 _ _ refl k ∙ sym (passes 9 _ _ refl h)

    pub neither : buffer_ok orders buffer ≡ true → 0 ≡ first_failing (length_rules orders buffer)
    neither k = none_left ∙ sym (passes 10 _ _ refl k) ∙ sym (passes 9 _ _ refl h)

  -- neither applies: there are 16 bytes for each order
  pub room : first_failing (length_rules orders buffer) ≡ 0 → length buffer ≡ 16 * (length orders / 4)
  unfolding orders_ok buffer_ok
  room h =
      let p : length orders % 4 ≡ 0 = eqb-true _ _ (and_left (eqb (length orders % 4) 0) (leb (length orders) 16384) (none_fails 10 (length_rules orders buffer) refl h 0)) in
      let q : length buffer ≡ 4 * length orders = eqb-true _ _ (none_fails 10 (length_rules orders buffer) refl h 1) in
      omega arith

module _ (m orders old : List ℕ) where
  -- a refusal of the model decides
  pub model_refused : (refusal_of m ≡ 0 → ⊥) → number_of m orders old ≡ refusal_of m
  unfolding number_of
  model_refused h = model_decides m (length_rules orders old) h

  -- the model is accepted: 9 and 10 decide
  pub model_accepted : refusal_of m ≡ 0 → number_of m orders old ≡ first_failing (length_rules orders old)
  unfolding number_of
  model_accepted h = others_decide m (length_rules orders old) h

  -- "a refused one writes no answer and returns the empty configuration"
  pub refused_session : (r : Ended) → r.number ≡ number_of m orders old → (r.number ≡ 0 → ⊥) → view_of r.config ≡ empty → SessionIs m orders old old r
  unfolding session_of
  refused_session r e h v =
      let k : eqb (number_of m orders old) 0 ≡ false = ne_eqb _ _ (λ z. h (e ∙ z)) in
      record { number = rw k e; end = rw k v; buffer = rw k refl }

  pub played_session : (new : List ℕ) (r : Ended) → number_of m orders old ≡ 0 → r.number ≡ 0
      → PlayedTo (model_of m) orders (first (model_of m)) (view_of r.config) new → SessionIs m orders old new r
  unfolding session_of
  played_session new r e h p =
      let k : eqb (number_of m orders old) 0 ≡ true = eq-eqb _ _ e in
      record { number = rw k h; end = rw k p.end; buffer = rw k p.answers }
