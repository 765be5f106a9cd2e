use mathlib.Core.Path.{refl, ◌∙◌}
use mathlib.Core.List.{List}
use Prim.Native.Nat.{ℕ, ◌<◌}
use native.Mathlib.Omega.{arith}
use Rattle.expressions.specs.Lent.{model_of_program}
use Rattle.cycle.specs.View.{view_of}
use Rattle.cycle.specs.declared.config.Config.{Config}
use Rattle.cycle.proofs.Advances.{few_signals}
use Rattle.dumps.proofs.TraceLaws.{four_bytes, Tracing, tracing_none, room, tracing_stays, tracing_leaves, traced}
use Rattle.dumps.proofs.trace.Goals as goal
use Rattle.dumps.proofs.trace.Goals.{then-at-time, else-at-time}

pub loop-i-init : goal.loop-i-init
loop-i-init c = tracing_none _ _ _ _ _ c.requires.valid c.requires.times_len c.requires.values_len

pub play-at-requires : goal.play-at-requires
play-at-requires c = record { valid = c.loop-i.invariant.valid; answers_len = four_bytes _ _ c.loop-i-test.true }

-- there is room for the next row
row_room : (c : goal.After-put_row-arg-then-at-time-2-1) {i k : ℕ} {at : Config} {times values : List ℕ} → Tracing (model_of_program c.args.program.now) c.args.orders.now (view_of c.args.c) i at k times values → k < 2049
row_room c inv = room c.args.program.now.runs.facts c.requires.orders_len_bound c.requires.valid.reachable inv

pub put_row-requires : goal.put_row-requires
put_row-requires c =
    let inv = c.loop-i.invariant in
    record { n_bound = few_signals c.args.program.now.runs.facts c.play-at.ensures.valid_2; k_bound = row_room c inv; times_len = inv.times_long; values_len = inv.values_long }

-- there is room for the next row
row_room_2 : (c : goal.After-slice_known-then-at-time-2-1) {i k : ℕ} {at : Config} {times values : List ℕ} → Tracing (model_of_program c.args.program.now) c.args.orders.now (view_of c.args.c) i at k times values → k < 2049
row_room_2 c inv = room c.args.program.now.runs.facts c.requires.orders_len_bound c.requires.valid.reachable inv

pub overflow_add-k : goal.overflow_add-k
overflow_add-k c = omega (arith, row_room_2 c c.loop-i.invariant)

pub loop-i-preserved : goal.loop-i-preserved
loop-i-preserved c =
    let inv = c.loop-i.invariant in
    elim c.if-at-time.branch [
      | then-at-time w ↦ rw (w.times-is, w.values-is, w.k-is)
          (tracing_leaves c.args.program.now.runs.facts c.requires.orders_len_bound c.requires.valid.reachable inv c.loop-i-test.true c.play-at.ensures.played_to c.play-at.ensures.valid_2 w.if-at-time.true
          refl (w.put_row.auto.times ∙ inv.times_long) (w.put_row.auto.values ∙ inv.values_long) w.put_row.ensures)
      | else-at-time w ↦ rw (w.times-is, w.values-is, w.k-is) (tracing_stays c.args.program.now.runs.facts c.requires.orders_len_bound c.requires.valid.reachable inv c.loop-i-test.true c.play-at.ensures.played_to c.play-at.ensures.valid_2 w.if-at-time.false)
    ]

-- there is room for the next row
row_room_3 : (c : goal.After-put_row-arg-4-1) {i k : ℕ} {at : Config} {times values : List ℕ} → Tracing (model_of_program c.args.program.now) c.args.orders.now (view_of c.args.c) i at k times values → k < 2049
row_room_3 c inv = room c.args.program.now.runs.facts c.requires.orders_len_bound c.requires.valid.reachable inv

pub put_row-requires-2 : goal.put_row-requires-2
put_row-requires-2 c =
    let inv = c.loop-i.invariant in
    record { n_bound = few_signals c.args.program.now.runs.facts inv.valid; k_bound = row_room_3 c inv; times_len = inv.times_long; values_len = inv.values_long }

-- there is room for the next row
row_room_4 : (c : goal.After-slice_known-4-1) {i k : ℕ} {at : Config} {times values : List ℕ} → Tracing (model_of_program c.args.program.now) c.args.orders.now (view_of c.args.c) i at k times values → k < 2049
row_room_4 c inv = room c.args.program.now.runs.facts c.requires.orders_len_bound c.requires.valid.reachable inv

pub overflow_add-result : goal.overflow_add-result
overflow_add-result c = omega (arith, row_room_4 c c.loop-i.invariant)

pub returns : goal.returns
returns c = traced c.args.program.now.runs.facts c.requires.orders_len_bound c.requires.valid.reachable c.loop-i.invariant c.loop-i-test.false refl c.put_row-2.ensures
