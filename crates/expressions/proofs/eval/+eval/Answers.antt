-- `eval` gives the value of the specification. The measure is the node's number, which falls at each operand. At a return the
-- `match` says which line of `value_by` holds. Assumes nothing.
use mathlib.Core.Path.{◌∙◌, refl, sym}
use Rattle.values.specs.Operators.{and_of, or_of}
use Rattle.rules.specs.Evaluation.{value_by}
use Rattle.expressions.proofs.Logical.{decides}
use Rattle.expressions.proofs.Recursion.{leaf_value, unary_value, binary_value}
use Rattle.expressions.proofs.eval.+eval.Goals as goal

pub returns-then-decided : goal.returns-then-decided
unfolding value_by
returns-then-decided t c =
    unary_value (c.decreases, (c.args.program.now.runs, c.requires)) c.node-d.ensures _ c.type_at-ty.ensures c.eval-p.ensures
    (λ q. rw c.in-7.is (decides 0 and_of c.type_at-ty.result c.eval-p.result q (sym c.decided.ensures ∙ c.if-decided.true)))

pub returns-then-decided-2 : goal.returns-then-decided-2
unfolding value_by
returns-then-decided-2 t c =
    unary_value (c.decreases, (c.args.program.now.runs, c.requires)) c.node-d.ensures _ c.type_at-ty-in-8.ensures c.eval-p-in-8.ensures
    (λ q. rw c.in-8.is (decides 1 or_of c.type_at-ty-in-8.result c.eval-p-in-8.result q (sym c.decided-in-8.ensures ∙ c.if-decided-2.true)))

pub returns-in-1 : goal.returns-in-1
unfolding value_by
returns-in-1 t c = leaf_value (c.decreases, (c.args.program.now.runs, c.requires)) c.node-d.ensures _ refl (λ p q. rw c.in-1.is)

pub returns-in-2 : goal.returns-in-2
unfolding value_by
returns-in-2 t c = leaf_value (c.decreases, (c.args.program.now.runs, c.requires)) c.node-d.ensures _ refl (λ p q. rw c.in-2.is)

pub returns-in-3 : goal.returns-in-3
unfolding value_by
returns-in-3 t c = leaf_value (c.decreases, (c.args.program.now.runs, c.requires)) c.node-d.ensures _ refl (λ p q. rw c.in-3.is c.variable_of.ensures)

pub returns-in-4 : goal.returns-in-4
unfolding value_by
returns-in-4 t c = leaf_value (c.decreases, (c.args.program.now.runs, c.requires)) c.node-d.ensures _ refl (λ p q. rw c.in-4.is c.signal_of.ensures)

pub returns-in-5 : goal.returns-in-5
unfolding value_by
returns-in-5 t c = leaf_value (c.decreases, (c.args.program.now.runs, c.requires)) c.node-d.ensures _ refl (λ p q. rw (c.in-5.is, sym c.delayed.ensures) c.signal_of-in-5.ensures)

pub returns-in-6 : goal.returns-in-6
unfolding value_by
returns-in-6 t c = unary_value (c.decreases, (c.args.program.now.runs, c.requires)) c.node-d.ensures _ c.type_at.ensures c.eval.ensures (λ q. rw c.in-6.is c.not.ensures)

pub returns-else-decided : goal.returns-else-decided
unfolding value_by
returns-else-decided t c = binary_value (c.decreases, (c.args.program.now.runs, c.requires)) c.node-d.ensures _ c.type_at-ty.ensures c.eval-p.ensures c.eval-in-7.ensures (rw c.in-7.is c.and.ensures)

pub returns-else-decided-2 : goal.returns-else-decided-2
unfolding value_by
returns-else-decided-2 t c = binary_value (c.decreases, (c.args.program.now.runs, c.requires)) c.node-d.ensures _ c.type_at-ty-in-8.ensures c.eval-p-in-8.ensures c.eval-in-8.ensures (rw c.in-8.is c.or.ensures)

pub returns-in-9 : goal.returns-in-9
unfolding value_by
returns-in-9 t c = binary_value (c.decreases, (c.args.program.now.runs, c.requires)) c.node-d.ensures _ c.type_at-in-9.ensures c.eval-p-in-9.ensures c.eval-in-9.ensures (rw c.in-9.is c.xor.ensures)

pub returns-in-10 : goal.returns-in-10
unfolding value_by
returns-in-10 t c = unary_value (c.decreases, (c.args.program.now.runs, c.requires)) c.node-d.ensures _ refl c.eval-in-10.ensures (λ q. rw c.in-10.is c.negate.ensures)

pub returns-in-11 : goal.returns-in-11
unfolding value_by
returns-in-11 t c = binary_value (c.decreases, (c.args.program.now.runs, c.requires)) c.node-d.ensures _ refl c.eval-p-in-11.ensures c.eval-in-11.ensures (rw c.in-11.is c.plus.ensures)

pub returns-in-12 : goal.returns-in-12
unfolding value_by
returns-in-12 t c = binary_value (c.decreases, (c.args.program.now.runs, c.requires)) c.node-d.ensures _ refl c.eval-p-in-12.ensures c.eval-in-12.ensures (rw c.in-12.is c.minus.ensures)

pub returns-in-13 : goal.returns-in-13
unfolding value_by
returns-in-13 t c = binary_value (c.decreases, (c.args.program.now.runs, c.requires)) c.node-d.ensures _ refl c.eval-p-in-13.ensures c.eval-in-13.ensures (rw c.in-13.is c.equal.ensures)

pub returns-in-14 : goal.returns-in-14
unfolding value_by
returns-in-14 t c = binary_value (c.decreases, (c.args.program.now.runs, c.requires)) c.node-d.ensures _ refl c.eval-p-in-14.ensures c.eval-in-14.ensures (rw c.in-14.is c.less.ensures)

pub returns-in-15 : goal.returns-in-15
unfolding value_by
returns-in-15 t c = binary_value (c.decreases, (c.args.program.now.runs, c.requires)) c.node-d.ensures _ refl c.eval-p-in-15.ensures c.eval-in-15.ensures (rw c.in-15.is c.product.ensures)

pub returns-in-16 : goal.returns-in-16
unfolding value_by
returns-in-16 t c = binary_value (c.decreases, (c.args.program.now.runs, c.requires)) c.node-d.ensures _ refl c.eval-p-in-16.ensures c.eval-in-16.ensures (rw c.in-16.is c.divide.ensures)

pub returns-in-17 : goal.returns-in-17
unfolding value_by
returns-in-17 t c = binary_value (c.decreases, (c.args.program.now.runs, c.requires)) c.node-d.ensures _ refl c.eval-p-in-17.ensures c.eval-in-17.ensures (rw c.in-17.is c.divide-in-17.ensures)

pub returns-in-18 : goal.returns-in-18
unfolding value_by
returns-in-18 t c = binary_value (c.decreases, (c.args.program.now.runs, c.requires)) c.node-d.ensures _ refl c.eval-p-in-18.ensures c.eval-in-18.ensures (rw c.in-18.is c.divide-in-18.ensures)
