use mathlib.Core.Path.{◌≡◌}
use native.Mathlib.Omega.{arith}
use Rattle.base.specs.Below.{every}
use Rattle.fields.specs.Fields.{node_ok}
use Rattle.fields.proofs.FieldLaws.{node_binary, node_past}
use Rattle.fields.proofs.FieldForms.{integer_form, logic_form, variable_node, signal_node, past_node, one_operand}
use Rattle.fields.proofs.node_ok.Goals as goal

pub returns-in-1 : goal.returns-in-1
returns-in-1 c = integer_form _ _ c.args.records.now.totals_of c.args.d c.in-1.is _ c.value_ok.ensures

pub returns-in-2 : goal.returns-in-2
returns-in-2 c = logic_form _ _ c.args.records.now.totals_of c.args.d c.in-2.is _ c.value_ok-in-2.ensures

pub returns-in-3 : goal.returns-in-3
returns-in-3 c = variable_node _ _ c.args.records.now.totals_of c.args.d c.in-3.is

pub returns-in-4 : goal.returns-in-4
returns-in-4 c = signal_node _ _ c.args.records.now.totals_of c.args.d c.in-4.is

pub returns-in-5 : goal.returns-in-5
returns-in-5 c = past_node _ _ c.args.records.now.totals_of c.args.d c.in-5.is

pub returns-in-6 : goal.returns-in-6
returns-in-6 c = one_operand _ _ c.args.records.now.totals_of c.args.d c.in-6.is

pub returns-in-7-to-9 : goal.returns-in-7-to-9
returns-in-7-to-9 c = node_binary _ c.args.d (grind arith) (grind arith) (λ e. grind arith)

pub returns-in_default : goal.returns-in_default
unfolding node_ok every
returns-in_default c = let e : c.args.d.kind ≡ 0 = omega arith in rw e

pub returns-in_default-2 : goal.returns-in_default-2
returns-in_default-2 c = node_past _ c.args.d (omega arith)
