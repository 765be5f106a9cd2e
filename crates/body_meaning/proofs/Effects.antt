-- The made statement of each simple statement and condition does what the text's does, its nodes standing in the model. Assumes nothing.
use mathlib.Core.Path.{◌≡◌, refl, ◌∙◌}
use mathlib.Core.List.{List}
use mathlib.Core.Option.{Option, none, some}
use Prim.Native.Nat.{ℕ, ◌+◌, ◌<◌}
use native.Mathlib.Omega.{arith}
use borrow.Author.Tests.{ne_eqb}
use Rattle.blocks.specs.Records.{Model, statement_at}
use Rattle.fields.specs.Fields.{absent}
use Rattle.model.specs.Owners.{driver_for}
use Rattle.rules.specs.Statements.{effect_by, next_place}
use Rattle.meaning.proofs.Lies.{Goes, Does, Tests}
use Rattle.grammar.specs.Grammar.{Expression}
use Rattle.grammar.specs.Made.{statement, nodes_in, nodes_in_part}
use Rattle.body_meaning.specs.Values.{value_in}
use Rattle.body_meaning.specs.Statements.{ready_at, variable_assignment_lem, signal_assignment_lem, wait_statement, condition, environment, effect, test}
use Rattle.body_meaning.specs.Picks.{picks}
use Rattle.body_meaning.proofs.Values.{Same}
use Rattle.body_meaning.proofs.Picks.{picked, value_is, delay_is, transaction_is, unless_is, passes_value, passes_delay, passes_transaction, passed}

module _ (M : Model) (i : ℕ) where
  abbrev Next : ℕ
  Next = next_place M 0 i

  -- null
  pub null_goes : statement_at M i ≡ statement 0 0 0 0 0 → Goes (effect M) (test M) (picks M) (ready_at i) (ready_at Next)
  unfolding effect_by
  null_goes e s = picked M i s _ e

  -- go to a
  pub jump_goes : (a : ℕ) → statement_at M i ≡ statement 4 a 0 0 0 → Goes (effect M) (test M) (picks M) (ready_at i) (ready_at a)
  unfolding effect_by
  jump_goes a e s = picked M i s _ e

  module _ (m : ℕ) (e : Expression) (n : ℕ) (same : Same M m e n) where
    -- unless e go to a
    pub unless_tests : (a : ℕ) → statement_at M i ≡ statement 3 a n 0 0 → Tests (effect M) (test M) (picks M) (ready_at i) (condition i m e) (ready_at Next) (ready_at a)
    unfolding effect_by test
    unless_tests a h s = picked M i s _ h ∙ rw (same.value (environment s)) (unless_is M i s (value_in M (environment s) m e) a)

    -- v := e
    pub assign_does : (v : ℕ) → statement_at M i ≡ statement 1 v n 0 0
        → Does (effect M) (test M) (picks M) (ready_at i) (variable_assignment_lem i m v e) (ready_at Next)
    unfolding effect_by effect
    assign_does v h =
        record {
          move = λ s. picked M i s _ h ∙ rw (same.value (environment s)) (value_is M i s (value_in M (environment s) m e) _ _ (λ x. refl));
          past = λ s w. passed M i _ w (passes_value M i (value_in M (environment s) m e) _ (λ x. tt));
        }

    -- s <= e after f
    pub drive_does : (t : ℕ) (f : Expression) (k : ℕ) → Same M (m + nodes_in e) f k → statement_at M i ≡ statement 2 t n k 0
        → Does (effect M) (test M) (picks M) (ready_at i) (signal_assignment_lem i m t e f) (ready_at Next)
    unfolding effect_by effect
    drive_does t f k also h =
        record {
          move = λ s. picked M i s _ h ∙ rw (same.value (environment s), also.value (environment s))
              (value_is M i s (value_in M (environment s) m e) _ _
              (λ x. delay_is M i s (value_in M (environment s) (m + nodes_in e) f) _ _ (λ c. transaction_is M i s (driver_for M 0 t) c x)));
          past = λ s w. passed M i _ w
              (passes_value M i (value_in M (environment s) m e) _
              (λ x. passes_delay M i (value_in M (environment s) (m + nodes_in e) f) _ (λ c. passes_transaction M i s _ _ x)));
        }

  -- wait .., without `for`
  pub wait_does : (m : ℕ) (o : Option (List ℕ)) (u : Option Expression) (b set : ℕ) → statement_at M i ≡ statement 5 0 b absent set
      → Does (effect M) (test M) (picks M) (ready_at i) (wait_statement i m o u none) (ready_at Next)
  unfolding effect_by effect
  wait_does m o u b set h = record { move = λ s. picked M i s _ h; past = λ s w. passed M i _ w refl }

  -- wait .. for e
  pub wait_for_does : (m : ℕ) (o : Option (List ℕ)) (u : Option Expression) (e : Expression) (b n set : ℕ) → Same M (m + nodes_in_part u) e n → n < absent
      → statement_at M i ≡ statement 5 0 b n set → Does (effect M) (test M) (picks M) (ready_at i) (wait_statement i m o u (some e)) (ready_at Next)
  unfolding effect_by effect
  wait_for_does m o u e b n set same low h =
      record {
        move = λ s. picked M i s _ h ∙ rw (ne_eqb n absent (omega arith), same.value (environment s))
            (delay_is M i s (value_in M (environment s) (m + nodes_in_part u) e) _ _ (λ c. refl));
        past = λ s w. passed M i _ w (passes_delay M i (value_in M (environment s) (m + nodes_in_part u) e) _ (λ c. refl));
      }
