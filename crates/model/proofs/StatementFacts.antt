-- What acceptance gives of a statement, by its kind, from the rules 5, 7, 8 and 20. Assumes nothing.
use mathlib.Core.Path.{◌≡◌}
use mathlib.Core.Bool.{Bool, true, ◌&&◌, ◌||◌}
use mathlib.Core.Logic.{◌⊎◌, inl, inr, ⊎_elim}
use mathlib.Core.List.{[], ◌∷◌}
use Prim.Native.Nat.{ℕ}
use native.Mathlib.Omega.{arith}
use borrow.Author.Tests.{ne_eqb, ltb-true, eqb-true, eqb-false, not-true}
use lib.Dec.{eqb, ltb}
use lib.ListN.{length}
use Rattle.base.specs.Below.{every}
use Rattle.base.proofs.Below.{every_at, and_left, and_right}
use Rattle.blocks.specs.Records.{plain, Model, signal_at, variable_at}
use Rattle.blocks.specs.declared.records.StatementRecord.{StatementRecord}
use Rattle.fields.specs.Fields.{absent, is_node_or_absent, owner_of, statement_ok}
use Rattle.fields.proofs.StatementFields.{present, kind_most_lem, names_variable, names_signal, variable_value, signal_value, branch_condition, delay_node, target, wait_condition, wait_delay, wait_set_lem}
use Rattle.trees.specs.Trees.{integer, boolean, type_of, statement_typed}
use Rattle.model.specs.Nulls.{null_ok}
use Rattle.model.specs.Owners.{driver_for, reads_own, statement_owned}
use Rattle.model.specs.Facts.{Expression, VariableAssignment, SignalAssignment, NullAssignment, Branch, Wait, StatementFits}

-- a statement of process p, by the four rules that speak of it
module _ (M : Model) (n : ℕ) (s : StatementRecord) (ok : statement_ok M n s ≡ true) (typed : statement_typed M s ≡ true) (owned : statement_owned M (owner_of M n) s ≡ true) (null : null_ok M s ≡ true) where
  abbrev p : ℕ
  p = owner_of M n

  variable_assignment_lem : s.kind ≡ 1 → VariableAssignment M p s
  unfolding statement_typed statement_owned
  variable_assignment_lem e =
      let o = rw e at owned in
      let own : Bool = eqb (variable_at M s.a).process p in
      record {
        variable = names_variable M n s ok e;
        own = eqb-true _ p (and_left own _ o);
        value = record { node = variable_value M n s ok e; type = eqb-true _ _ (rw e at typed); own = and_right own _ o };
      }

  signal_assignment_lem : (s.kind ≡ 2) ⊎ (s.kind ≡ 7) → SignalAssignment M p s
  unfolding statement_typed statement_owned
  signal_assignment_lem e =
      let same : Bool = eqb (type_of M s.b) (signal_at M s.a).ty in
      let has : Bool = ltb (driver_for M p s.a) (length M.drivers) in
      let t : (same && eqb (type_of M s.c) integer) ≡ true = ⊎_elim (λ k. rw k at typed) (λ k. rw k at typed) e in
      let o : every (has ∷ reads_own M p s.b ∷ reads_own M p s.c ∷ []) ≡ true = ⊎_elim (λ k. rw k at owned) (λ k. rw k at owned) e in
      record {
        signal = names_signal M n s ok (inl e);
        driver = ltb-true _ _ (every_at _ 0 o);
        value = record { node = signal_value M n s ok e; type = eqb-true _ _ (and_left same _ t); own = every_at _ 1 o };
        delay = record { node = delay_node M n s ok (inl e); type = eqb-true _ _ (and_right same _ t); own = every_at _ 2 o };
      }

  null_assignment_lem : s.kind ≡ 6 → NullAssignment M p s
  unfolding statement_typed statement_owned null_ok
  null_assignment_lem e =
      let o = rw e at owned in
      let has : Bool = ltb (driver_for M p s.a) (length M.drivers) in
      let kind = (signal_at M s.a).kind in
      record {
        signal = names_signal M n s ok (inr e);
        guarded = omega (arith, eqb-false kind plain (not-true (eqb kind plain) (rw e at null)));
        driver = ltb-true _ _ (and_left has _ o);
        delay = record { node = delay_node M n s ok (inr e); type = eqb-true _ _ (rw e at typed); own = and_right has _ o };
      }

  branch : s.kind ≡ 3 → Branch M p s
  unfolding statement_typed statement_owned
  branch e =
      record {
        target = target M n s ok (omega arith) (omega arith);
        condition = record { node = branch_condition M n s ok e; type = eqb-true _ _ (rw e at typed); own = rw e at owned };
      }

  -- an operand that may be absent, and is not
  operand : (x ty : ℕ) → (x ≡ absent → ⊥) → is_node_or_absent M x ≡ true → (eqb x absent || eqb (type_of M x) ty) ≡ true → (eqb x absent || reads_own M p x) ≡ true → Expression M p ty x
  operand x ty h f t o =
      let e = ne_eqb x absent h in
      record { node = present M x f h; type = eqb-true _ _ (rw e at t); own = rw e at o }

  wait : s.kind ≡ 5 → Wait M p s
  unfolding statement_typed statement_owned
  wait e =
      let t = rw e at typed in
      let o = rw e at owned in
      let tb : Bool = eqb s.b absent || eqb (type_of M s.b) boolean in
      let ob : Bool = eqb s.b absent || reads_own M p s.b in
      record {
        condition = λ h. operand s.b boolean h (wait_condition M n s ok e) (and_left tb _ t) (and_left ob _ o);
        delay = λ h. operand s.c integer h (wait_delay M n s ok e) (and_right tb _ t) (and_right ob _ o);
        set = wait_set_lem M n s ok e;
      }

  pub statement_fits : StatementFits M p s
  statement_fits =
      record {
        kind = kind_most_lem M n s ok;
        variable_assignment = variable_assignment_lem;
        signal_assignment = signal_assignment_lem;
        branch = branch;
        jump = λ e. target M n s ok (omega arith) (omega arith);
        wait = wait;
        null_assignment = null_assignment_lem;
      }
