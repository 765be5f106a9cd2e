-- Each answer by the laws of the rules 9 and 10. Assumes nothing.
use mathlib.Core.Path.{◌≡◌, sym, ◌∙◌}
use mathlib.Core.Bool.{true}
use native.Mathlib.Omega.{arith}
use borrow.Author.Tests.{eq-eqb, ne_eqb}
use Rattle.session.specs.Sessions.{orders_ok, buffer_ok}
use Rattle.session.proofs.SessionLaws.{nine, ten, neither, orders_few}
use Rattle.session.proofs.check_lengths.Goals as goal

pub returns-then-not-orders_ok : goal.returns-then-not-orders_ok
returns-then-not-orders_ok c = nine _ _ (sym c.orders_ok.ensures ∙ c.if-not-orders_ok.true)

-- 9 does not apply
whole : (c : goal.Else-not-orders_ok) → orders_ok c.args.orders.now ≡ true
whole c = sym c.orders_ok.ensures ∙ c.if-not-orders_ok.false

pub overflow_mul-orders : goal.overflow_mul-orders
overflow_mul-orders c = omega (arith, orders_few _ c.args.answers.now (whole c))

-- 9 does not apply
whole_2 : (c : goal.Then-answers-orders) → orders_ok c.args.orders.now ≡ true
whole_2 c = sym c.orders_ok.ensures ∙ c.if-not-orders_ok.false

pub returns-then-answers-orders : goal.returns-then-answers-orders
unfolding buffer_ok
returns-then-answers-orders c = ten c.args.orders.now c.args.answers.now (whole_2 c) (ne_eqb _ _ c.if-answers-orders.true)

-- 9 does not apply
whole_3 : (c : goal.Else-answers-orders) → orders_ok c.args.orders.now ≡ true
whole_3 c = sym c.orders_ok.ensures ∙ c.if-not-orders_ok.false

pub returns : goal.returns
unfolding buffer_ok
returns c = neither c.args.orders.now c.args.answers.now (whole_3 c) (eq-eqb _ _ c.if-answers-orders.false)
