use mathlib.Core.Path.{sym}
use native.Mathlib.Omega.{arith}
use Rattle.blocks.proofs.Lookup.{signals_most}
use Rattle.fields.proofs.FieldForms.{null_form, variable_set, signal_set, branch_form, jump_form, wait_form, null_set, other_form}
use Rattle.fields.proofs.statement_ok.Goals as goal

pub set_ok-requires : goal.set_ok-requires
set_ok-requires c = rw (sym c.args.records.now.totals_of.signals) at (signals_most _ c.args.records.now.starts.totals)

pub returns-in-0 : goal.returns-in-0
returns-in-0 c = null_form _ c.args.records.now.totals c.args.records.now.totals_of c.args.n c.args.s c.in-0.is

pub returns-in-1 : goal.returns-in-1
returns-in-1 c = variable_set _ c.args.records.now.totals c.args.records.now.totals_of c.args.n c.args.s c.in-1.is

pub returns-in-2 : goal.returns-in-2
returns-in-2 c = signal_set _ c.args.records.now.totals c.args.records.now.totals_of c.args.n c.args.s c.in-2.is

pub returns-in-3 : goal.returns-in-3
returns-in-3 c = branch_form _ c.args.records.now.totals c.args.records.now.totals_of c.args.n c.args.s _ c.jump_ok.ensures c.in-3.is

pub returns-in-4 : goal.returns-in-4
returns-in-4 c = jump_form _ c.args.records.now.totals c.args.records.now.totals_of c.args.n c.args.s _ c.jump_ok-in-4.ensures c.in-4.is

pub returns-in-5 : goal.returns-in-5
returns-in-5 c = wait_form _ c.args.records.now.totals c.args.records.now.totals_of c.args.n c.args.s c.in-5.is _ c.set_ok.ensures

pub returns-in-6 : goal.returns-in-6
returns-in-6 c = null_set _ c.args.records.now.totals c.args.records.now.totals_of c.args.n c.args.s c.in-6.is

pub returns-in_default : goal.returns-in_default
returns-in_default c = other_form _ _ c.args.records.now.totals_of c.args.n c.args.s (λ e. omega arith) (λ e. omega arith) (λ e. omega arith) (λ e. omega arith) (λ e. omega arith) (λ e. omega arith) (λ e. omega arith)
