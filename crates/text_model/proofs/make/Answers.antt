-- The text is read, its names and totals are judged, the model is put into blocks and judged, and written where nothing refuses it.
-- Assumes nothing.
use mathlib.Core.Path.{refl, sym}
use native.Mathlib.Omega.{arith}
use lib.Seq.{length-take-le}
use Rattle.std.proofs.lemmas.Result.{err_from_is_err_and}
use Rattle.text_model.proofs.MakeLaws.{node_room, statement_room, block_room, number_some, unread, counted_nodes, counted_statements, early_taken, late_taken, all_taken, ready, fitting, bounds, put_there, few_put}
use Rattle.text_model.proofs.make.Goals as goal

pub returns-in_err-r : goal.returns-in_err-r
returns-in_err-r c = let p = err_from_is_err_and c.from_residual.result c.from_residual.ensures.1 in rw (p.1, p.2) (unread _ c.in_err-r.ensures)

pub returns-in_err-check_given : goal.returns-in_err-check_given
returns-in_err-check_given c =
    let r = c.in_ok-r.ensures in
    let a = r.accepted refl in
    let p = err_from_is_err_and c.from_residual-in_err-check_given.result c.from_residual-in_err-check_given.ensures.1 in
    rw (p.1, p.2) (early_taken c.args.given.now a r.one_reading (refl, refl, refl, refl) (number_some _)
    (c.in_err-check_given.ensures a.tree (counted_nodes c.args.given.now a r.one_reading) (counted_statements c.args.given.now a r.one_reading)))

pub overflow_mul-n : goal.overflow_mul-n
overflow_mul-n c = omega (arith, bounds c.args.given.now c.in_ok-r.ensures refl c.in_ok-check_given.ensures refl)

pub overflow_mul-s : goal.overflow_mul-s
overflow_mul-s c = omega (arith, bounds c.args.given.now c.in_ok-r.ensures refl c.in_ok-check_given.ensures refl)

pub slice_bounds-nodes-end : goal.slice_bounds-nodes-end
slice_bounds-nodes-end c =
    omega (arith, bounds c.args.given.now c.in_ok-r.ensures refl c.in_ok-check_given.ensures refl, c.read.auto.nodes, node_room)

pub slice_bounds-put_model-end : goal.slice_bounds-put_model-end
slice_bounds-put_model-end c =
    sym (length-take-le _ _
    (omega (arith, bounds c.args.given.now c.in_ok-r.ensures refl c.in_ok-check_given.ensures refl, c.read.auto.nodes, node_room)))

pub slice_bounds-statements-end : goal.slice_bounds-statements-end
slice_bounds-statements-end c =
    omega (arith, bounds c.args.given.now c.in_ok-r.ensures refl c.in_ok-check_given.ensures refl, c.read.auto.statements, statement_room)

pub slice_bounds-put_model-end-2 : goal.slice_bounds-put_model-end-2
slice_bounds-put_model-end-2 c =
    sym (length-take-le _ _
    (omega (arith, bounds c.args.given.now c.in_ok-r.ensures refl c.in_ok-check_given.ensures refl, c.read.auto.statements, statement_room)))

pub put_model-blocks-requires-clause-given_fits : goal.put_model-blocks-requires-clause-given_fits
put_model-blocks-requires-clause-given_fits c = fitting c.args.given.now c.in_ok-r.ensures refl c.in_ok-check_given.ensures refl

pub overflow_mul-end : goal.overflow_mul-end
overflow_mul-end c =
    let put = put_there c.args.given.now c.in_ok-r.ensures refl c.in_ok-check_given.ensures refl node_room statement_room c.put_model-blocks.ensures in
    omega (arith, few_put c.args.given.now c.in_ok-r.ensures refl c.in_ok-check_given.ensures refl put)

pub slice_bounds-out-end : goal.slice_bounds-out-end
slice_bounds-out-end c =
    let put = put_there c.args.given.now c.in_ok-r.ensures refl c.in_ok-check_given.ensures refl node_room statement_room c.put_model-blocks.ensures in
    omega (arith, few_put c.args.given.now c.in_ok-r.ensures refl c.in_ok-check_given.ensures refl put, c.put_model-blocks.auto.out, block_room)

pub slice_bounds-judge-end : goal.slice_bounds-judge-end
slice_bounds-judge-end c =
    let put = put_there c.args.given.now c.in_ok-r.ensures refl c.in_ok-check_given.ensures refl node_room statement_room c.put_model-blocks.ensures in
    sym (length-take-le _ _ (omega (arith, few_put c.args.given.now c.in_ok-r.ensures refl c.in_ok-check_given.ensures refl put, c.put_model-blocks.auto.out, block_room)))

pub returns-in_err-judge : goal.returns-in_err-judge
returns-in_err-judge c =
    let r = c.in_ok-r.ensures in
    let put = put_there c.args.given.now r refl c.in_ok-check_given.ensures refl node_room statement_room c.put_model-blocks.ensures in
    let p = err_from_is_err_and c.from_residual-in_err-judge.result c.from_residual-in_err-judge.ensures.1 in
    rw (p.1, p.2) (late_taken c.args.given.now (r.accepted refl) r.one_reading (ready c.args.given.now r refl c.in_ok-check_given.ensures refl) block_room put c.in_err-judge.ensures (refl, refl, refl, refl) (number_some _))

pub slice_bounds-out-end-2 : goal.slice_bounds-out-end-2
slice_bounds-out-end-2 c =
    let put = put_there c.args.given.now c.in_ok-r.ensures refl c.in_ok-check_given.ensures refl node_room statement_room c.put_model-blocks.ensures in
    omega (arith, few_put c.args.given.now c.in_ok-r.ensures refl c.in_ok-check_given.ensures refl put, c.put_model-blocks.auto.out, block_room)

pub slice_bounds-store-end : goal.slice_bounds-store-end
slice_bounds-store-end c =
    let put = put_there c.args.given.now c.in_ok-r.ensures refl c.in_ok-check_given.ensures refl node_room statement_room c.put_model-blocks.ensures in
    sym (length-take-le _ _ (omega (arith, few_put c.args.given.now c.in_ok-r.ensures refl c.in_ok-check_given.ensures refl put, c.put_model-blocks.auto.out, block_room)))

pub returns : goal.returns
returns c =
    let r = c.in_ok-r.ensures in
    let put = put_there c.args.given.now r refl c.in_ok-check_given.ensures refl node_room statement_room c.put_model-blocks.ensures in
    all_taken c.args.given.now (r.accepted refl) r.one_reading (ready c.args.given.now r refl c.in_ok-check_given.ensures refl) block_room put c.in_ok-judge.ensures
    refl r.meaning c.store.ensures
