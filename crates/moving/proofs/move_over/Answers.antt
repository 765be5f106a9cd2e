-- Each number by the laws of a move, from what loading and the lengths say. Assumes nothing.
use mathlib.Core.Path.{◌≡◌, sym, subst, ◌∙◌}
use mathlib.Core.Bool.{true}
use native.Mathlib.Omega.{arith}
use Rattle.expressions.proofs.Runs.{runs_lent}
use Rattle.model.specs.Rules.{refusal_of}
use Rattle.model.proofs.Rules.{number_some}
use Rattle.session.specs.Sessions.{orders_ok}
use Rattle.moving.proofs.ListMoves.{moves_over}
use Rattle.moving.proofs.Numbers.{whole, model_first, nine, ten, none, refused_move, written_move}
use Rattle.std.proofs.lemmas.Result.{err_from_is_err_and}
use Rattle.blocks.specs.Records.{model_of}
use Rattle.rules.specs.Configuration.{first}
use Rattle.session.specs.Lists.{orders_of, order_bytes}
use Rattle.moving.specs.Moving.{moved_over}
use Rattle.moving.proofs.move_over.Goals as goal

pub returns-in_err-loaded : goal.returns-in_err-loaded
returns-in_err-loaded c =
    let p = err_from_is_err_and c.from_residual.result c.from_residual.ensures.1 in
    let is = c.in_err-loaded.ensures.refusal in
    rw (p.1, p.2) (record { move_is = refused_move _ _ _ _ (is ∙ sym (model_first _ _ _ (λ z. absurd (omega (arith, is, z, number_some c.in_err-loaded.field-0.0))))) (λ z. absurd (omega (arith, z, number_some c.in_err-loaded.field-0.0))); moves_over = moves_over })

-- the model is accepted, and then the orders
accepted : (c : goal.Then-not-orders_ok) → refusal_of c.args.model.now ≡ 0
accepted c = sym c.in_ok-loaded.ensures.refusal

pub returns-then-not-orders_ok : goal.returns-then-not-orders_ok
returns-then-not-orders_ok c = record { move_is = refused_move _ _ _ 9 (nine _ _ _ (accepted c) (sym c.orders_ok.ensures ∙ c.if-not-orders_ok.true)) (λ z. omega arith); moves_over = moves_over }

-- the model is accepted, and then the orders
accepted_2 : (c : goal.Then-moved-orders) → refusal_of c.args.model.now ≡ 0
accepted_2 c = sym c.in_ok-loaded.ensures.refusal

ok : (c : goal.Then-moved-orders) → orders_ok c.args.orders.now ≡ true
ok c = sym c.orders_ok.ensures ∙ c.if-not-orders_ok.false

pub returns-then-moved-orders : goal.returns-then-moved-orders
returns-then-moved-orders c = record { move_is = refused_move _ _ _ 10 (ten _ _ _ (accepted_2 c) (ok c) c.if-moved-orders.true) (λ z. omega arith); moves_over = moves_over }

ok_2 : (c : goal.After-move_each-arg-1) → orders_ok c.args.orders.now ≡ true
ok_2 c = sym c.orders_ok.ensures ∙ c.if-not-orders_ok.false

pub invariant_of-program : goal.invariant_of-program
invariant_of-program c = record { runs = runs_lent c.in_ok-loaded.ensures.loaded.usable c.records.ensures.lent.0 c.records.ensures.lent.1 }

pub move_each-requires : goal.move_each-requires
move_each-requires c = record { valid = c.first-first.ensures.valid; moved_len = whole c.args.orders.now c.args.moved.now (ok_2 c) c.if-moved-orders.false }

-- the model is accepted, and then the orders
accepted_3 : (c : goal.After-slice_known-2-1) → refusal_of c.args.model.now ≡ 0
accepted_3 c = sym c.in_ok-loaded.ensures.refusal

ok_3 : (c : goal.After-slice_known-2-1) → orders_ok c.args.orders.now ≡ true
ok_3 c = sym c.orders_ok.ensures ∙ c.if-not-orders_ok.false

pub returns : goal.returns
returns c =
    let put = rw c.first-first.ensures.is at c.move_each.ensures in
    record { move_is = written_move _ _ _ _ (none _ _ _ (accepted_3 c) (ok_3 c) c.if-moved-orders.false) (subst (λ b. c.move_each.new.moved ≡ order_bytes (moved_over (model_of b) (orders_of c.args.orders.now) (first (model_of b)))) c.records.ensures.lent.0 put); moves_over = moves_over }
