-- `model::owners::statement_owned` meets its contract: each arm is a case of `statement_owned`. Assumes nothing.
use mathlib.Core.Path.{ap}
use mathlib.Core.Logic.{inl, inr}
use native.Mathlib.Omega.{arith}
use Rattle.fields.proofs.StatementFields.{names_variable, variable_value, signal_value, branch_condition, delay_node, wait_condition, wait_delay}
use Rattle.trees.proofs.TypeForms.{read_ok}
use Rattle.model.proofs.RuleForms.{variable_owned, signal_owned, branch_owned, wait_owned, null_owned, other_owned}
use Rattle.model.proofs.owners.statement_owned.Goals as goal

pub variable-requires : goal.variable-requires
variable-requires c = names_variable _ _ _ (read_ok _ _ _ c.statement-s.ensures c.requires.fields c.requires.n_in_bounds) c.in-1.is

pub reads_own-requires-clause-n_in_bounds : goal.reads_own-requires-clause-n_in_bounds
reads_own-requires-clause-n_in_bounds c = variable_value _ _ _ (read_ok _ _ _ c.statement-s.ensures c.requires.fields c.requires.n_in_bounds) c.in-1.is

pub reads_own-requires-in-2-clause-n_in_bounds : goal.reads_own-requires-in-2-clause-n_in_bounds
reads_own-requires-in-2-clause-n_in_bounds c = signal_value _ _ _ (read_ok _ _ _ c.statement-s.ensures c.requires.fields c.requires.n_in_bounds) c.in-2.is

pub reads_own-requires-in-2-2-clause-n_in_bounds : goal.reads_own-requires-in-2-2-clause-n_in_bounds
reads_own-requires-in-2-2-clause-n_in_bounds c = delay_node _ _ _ (read_ok _ _ _ c.statement-s.ensures c.requires.fields c.requires.n_in_bounds) (inl c.in-2.is)

pub reads_own-requires-in-3-clause-n_in_bounds : goal.reads_own-requires-in-3-clause-n_in_bounds
reads_own-requires-in-3-clause-n_in_bounds c = branch_condition _ _ _ (read_ok _ _ _ c.statement-s.ensures c.requires.fields c.requires.n_in_bounds) c.in-3.is

pub own_or_absent-requires-clause-n_value : goal.own_or_absent-requires-clause-n_value
own_or_absent-requires-clause-n_value c = wait_condition _ _ _ (read_ok _ _ _ c.statement-s.ensures c.requires.fields c.requires.n_in_bounds) c.in-5.is

pub own_or_absent-requires-in-5-clause-n_value : goal.own_or_absent-requires-in-5-clause-n_value
own_or_absent-requires-in-5-clause-n_value c = wait_delay _ _ _ (read_ok _ _ _ c.statement-s.ensures c.requires.fields c.requires.n_in_bounds) c.in-5.is

pub reads_own-requires-in-6-clause-n_in_bounds : goal.reads_own-requires-in-6-clause-n_in_bounds
reads_own-requires-in-6-clause-n_in_bounds c = delay_node _ _ _ (read_ok _ _ _ c.statement-s.ensures c.requires.fields c.requires.n_in_bounds) (inr c.in-6.is)

pub returns-in-1 : goal.returns-in-1
returns-in-1 c = variable_owned _ _ _ c.statement-s.ensures _ _ c.owner_of-p.ensures c.in-1.is _ _ (ap (λ d. d.process) c.variable.ensures) c.reads_own.ensures

pub returns-in-2 : goal.returns-in-2
returns-in-2 c =
    signal_owned _ _ _ c.statement-s.ensures _ _ c.owner_of-p.ensures c.in-2.is _ _ _ _ c.assignment_driver.ensures c.args.records.now.totals_of.drivers c.reads_own-in-2.ensures
    c.reads_own-in-2-2.ensures

pub returns-in-3 : goal.returns-in-3
returns-in-3 c = branch_owned _ _ _ c.statement-s.ensures _ _ c.owner_of-p.ensures c.in-3.is _ c.reads_own-in-3.ensures

pub returns-in-5 : goal.returns-in-5
returns-in-5 c = wait_owned _ _ _ c.statement-s.ensures _ _ c.owner_of-p.ensures c.in-5.is _ _ c.own_or_absent.ensures c.own_or_absent-in-5.ensures

pub returns-in-6 : goal.returns-in-6
returns-in-6 c = null_owned _ _ _ c.statement-s.ensures _ _ c.owner_of-p.ensures c.in-6.is _ _ _ c.assignment_driver-in-6.ensures c.args.records.now.totals_of.drivers c.reads_own-in-6.ensures

pub returns-in_default : goal.returns-in_default
returns-in_default c = other_owned _ _ _ c.statement-s.ensures _ (λ e. omega arith) (λ e. grind arith) (λ e. grind arith) (λ e. omega arith) (λ e. omega arith) (λ e. omega arith)
