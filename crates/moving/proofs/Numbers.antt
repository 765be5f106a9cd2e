-- Which number a move has, and what is written. Assumes nothing.
use mathlib.Core.Path.{◌≡◌, refl, sym, ◌∙◌}
use mathlib.Core.Bool.{true, false}
use mathlib.Core.List.{List, [], ◌∷◌}
use Prim.Native.Nat.{ℕ, ◌*◌, ◌/◌, ◌%◌}
use native.Mathlib.Omega.{arith}
use borrow.Author.Tests.{eqb-true, eq-eqb, ne_eqb}
use lib.Dec.{eqb, leb}
use lib.ListN.{length}
use Rattle.base.specs.Rules.{◌needs◌, first_failing}
use Rattle.base.proofs.Below.{and_left}
use Rattle.base.proofs.Rules.{none_left, passes, fails}
use Rattle.blocks.specs.Records.{model_of}
use Rattle.model.specs.Rules.{refusal_of}
use Rattle.model.proofs.Rules.{model_decides, others_decide}
use Rattle.rules.specs.Configuration.{first}
use Rattle.session.specs.Lists.{orders_of, order_bytes}
use Rattle.session.specs.Sessions.{orders_ok}
use Rattle.moving.specs.Moving.{moved_over, moved_bytes, move_number, moved_of, MoveIs}

-- orders of the right length, and a buffer as long: four bytes for each order
pub whole : (o b : List ℕ) → orders_ok o ≡ true → length b ≡ length o → length b ≡ 4 * (length o / 4)
unfolding orders_ok
whole o b ok e =
    let p : length o % 4 ≡ 0 = eqb-true _ _ (and_left (eqb (length o % 4) 0) (leb (length o) 16384) ok) in
    omega arith

module _ (m o b : List ℕ) where
  pub model_first : (refusal_of m ≡ 0 → ⊥) → move_number m o b ≡ refusal_of m
  unfolding move_number
  model_first h = model_decides m _ h

  module _ (a : refusal_of m ≡ 0) where
    by_lengths : move_number m o b ≡ first_failing ((9 needs orders_ok o) ∷ (10 needs eqb (length b) (length o)) ∷ [])
    unfolding move_number
    by_lengths = others_decide m _ a

    pub nine : orders_ok o ≡ false → 9 ≡ move_number m o b
    nine h = fails 9 _ _ refl h ∙ sym by_lengths

    module _ (ok : orders_ok o ≡ true) where
      pub ten : (length b ≡ length o → ⊥) → 10 ≡ move_number m o b
      ten h = fails 10 _ _ refl (ne_eqb _ _ h) ∙ sym (passes 9 _ _ refl ok) ∙ sym by_lengths

      pub none : length b ≡ length o → move_number m o b ≡ 0
      none h = by_lengths ∙ passes 9 _ _ refl ok ∙ passes 10 _ _ refl (eq-eqb _ _ h) ∙ sym none_left

  -- a refused one writes nothing
  pub refused_move : (n : ℕ) → n ≡ move_number m o b → (n ≡ 0 → ⊥) → MoveIs m o b b n
  unfolding moved_of
  refused_move n e h =
      let k : eqb (move_number m o b) 0 ≡ false = ne_eqb _ _ (λ z. h (e ∙ z)) in
      record { number = rw k e; buffer = rw k refl }

  pub written_move : (new : List ℕ) → move_number m o b ≡ 0 → new ≡ order_bytes (moved_over (model_of m) (orders_of o) (first (model_of m))) → MoveIs m o b new 0
  unfolding moved_of moved_bytes
  written_move new e q =
      let k : eqb (move_number m o b) 0 ≡ true = eq-eqb _ _ e in
      record { number = rw k refl; buffer = rw k q }
