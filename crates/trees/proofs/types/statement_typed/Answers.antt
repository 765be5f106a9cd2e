-- `trees::types::statement_typed` meets its contract: each arm is a case of `statement_typed`. Assumes nothing.
use mathlib.Core.Path.{refl}
use mathlib.Core.Logic.{inl, inr}
use native.Mathlib.Omega.{arith}
use Rattle.fields.proofs.StatementFields.{names_variable, names_signal, variable_value, signal_value, branch_condition, delay_node, wait_condition, wait_delay}
use Rattle.trees.proofs.TypeForms.{read_ok, variable_typed, signal_typed, branch_typed, wait_typed, null_typed, other_typed}
use Rattle.trees.proofs.types.statement_typed.Goals as goal

pub type_at-requires-clause-n_in_bounds : goal.type_at-requires-clause-n_in_bounds
type_at-requires-clause-n_in_bounds c = variable_value _ _ _ (read_ok _ _ _ c.statement-s.ensures c.requires.m_value c.requires.n_in_bounds) c.in-1.is

pub variable-requires : goal.variable-requires
variable-requires c = names_variable _ _ _ (read_ok _ _ _ c.statement-s.ensures c.requires.m_value c.requires.n_in_bounds) c.in-1.is

pub type_at-requires-in-2-clause-n_in_bounds : goal.type_at-requires-in-2-clause-n_in_bounds
type_at-requires-in-2-clause-n_in_bounds c = signal_value _ _ _ (read_ok _ _ _ c.statement-s.ensures c.requires.m_value c.requires.n_in_bounds) c.in-2.is

pub signal_type-requires : goal.signal_type-requires
signal_type-requires c = names_signal _ _ _ (read_ok _ _ _ c.statement-s.ensures c.requires.m_value c.requires.n_in_bounds) (inl c.in-2.is)

pub type_at-requires-in-2-2-clause-n_in_bounds : goal.type_at-requires-in-2-2-clause-n_in_bounds
type_at-requires-in-2-2-clause-n_in_bounds c = delay_node _ _ _ (read_ok _ _ _ c.statement-s.ensures c.requires.m_value c.requires.n_in_bounds) (inl c.in-2.is)

pub type_at-requires-in-3-clause-n_in_bounds : goal.type_at-requires-in-3-clause-n_in_bounds
type_at-requires-in-3-clause-n_in_bounds c = branch_condition _ _ _ (read_ok _ _ _ c.statement-s.ensures c.requires.m_value c.requires.n_in_bounds) c.in-3.is

pub typed_or_absent-requires-clause-n_value : goal.typed_or_absent-requires-clause-n_value
typed_or_absent-requires-clause-n_value c = wait_condition _ _ _ (read_ok _ _ _ c.statement-s.ensures c.requires.m_value c.requires.n_in_bounds) c.in-5.is

pub typed_or_absent-requires-in-5-clause-n_value : goal.typed_or_absent-requires-in-5-clause-n_value
typed_or_absent-requires-in-5-clause-n_value c = wait_delay _ _ _ (read_ok _ _ _ c.statement-s.ensures c.requires.m_value c.requires.n_in_bounds) c.in-5.is

pub type_at-requires-in-6-clause-n_in_bounds : goal.type_at-requires-in-6-clause-n_in_bounds
type_at-requires-in-6-clause-n_in_bounds c = delay_node _ _ _ (read_ok _ _ _ c.statement-s.ensures c.requires.m_value c.requires.n_in_bounds) (inr c.in-6.is)

pub returns-in-1 : goal.returns-in-1
returns-in-1 c = rw c.variable.ensures (variable_typed _ _ _ c.statement-s.ensures _ c.type_at.ensures c.in-1.is _ refl)

pub returns-in-2 : goal.returns-in-2
returns-in-2 c = signal_typed _ _ _ c.statement-s.ensures _ c.type_at-in-2.ensures c.in-2.is _ _ c.signal_type.ensures c.type_at-in-2-2.ensures

pub returns-in-3 : goal.returns-in-3
returns-in-3 c = branch_typed _ _ _ c.statement-s.ensures _ c.type_at-in-3.ensures c.in-3.is

pub returns-in-5 : goal.returns-in-5
returns-in-5 c = wait_typed _ _ _ c.statement-s.ensures c.in-5.is _ _ c.typed_or_absent.ensures c.typed_or_absent-in-5.ensures

pub returns-in-6 : goal.returns-in-6
returns-in-6 c = null_typed _ _ _ c.statement-s.ensures c.in-6.is _ c.type_at-in-6.ensures

pub returns-in_default : goal.returns-in_default
returns-in_default c =
    other_typed _ _ _ c.statement-s.ensures (λ e. omega arith) (λ e. omega arith) (λ e. omega arith) (λ e. omega arith) (λ e. omega arith)
