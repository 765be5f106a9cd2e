-- Each answer by the laws of a dump, from what loading, the rows kept and the writing say. Assumes nothing.
use mathlib.Core.Path.{◌≡◌, refl, sym, ◌∙◌}
use mathlib.Core.Bool.{true}
use mathlib.Core.List.{[]}
use native.Mathlib.Omega.{arith}
use lib.ListN.{length}
use Rattle.std.proofs.lemmas.Result.{err_from_is_err_and}
use Rattle.base.specs.Refusals.{number_of}
use Rattle.model.specs.Rules.{refusal_of}
use Rattle.model.proofs.Rules.{number_some}
use Rattle.expressions.proofs.Runs.{runs}
use Rattle.session.specs.Sessions.{orders_ok}
use Rattle.session.proofs.SessionLaws.{orders_few}
use borrow.Author.Rules.{rules}
use Rattle.io.proofs.Counting.{length-take_of_le}
use Rattle.numerals.proofs.PutLaws.{said}
use Rattle.dumps.proofs.DumpLaws.{run_refused, run_nine, run_free, before_room, no_room, refused_dump, written_dump, nine_some, times_of_runs, reads_back}
use Rattle.dumps.proofs.Kept.{signals_fit, kept, long, holds}
use Rattle.dumps.proofs.dump.Goals as goal

pub returns-in_err-loaded : goal.returns-in_err-loaded
returns-in_err-loaded c =
    let p = err_from_is_err_and c.from_residual.result c.from_residual.ensures.1 in
    let r = c.in_err-loaded.field-0.0 in
    let some : number_of r ≡ 0 → ⊥ = λ z. omega (arith, z, number_some r) in
    let is = c.in_err-loaded.ensures.refusal in
    let e = run_refused c.args.model.now c.args.orders.now (λ z. some (is ∙ z)) ∙ sym is in
    rw (p.1, p.2) (record { dump_is = refused_dump _ _ _ _ (sym e ∙ sym (before_room _ _ _ (λ z. some (sym e ∙ z)))); reads_back = reads_back; times_of_runs = times_of_runs; room_holds = λ z. absurd (some (sym e ∙ z)) })

-- where it is accepted
accepted : (c : goal.Then-not-orders_ok) → refusal_of c.args.model.now ≡ 0
accepted c = sym c.in_ok-loaded.ensures.refusal

pub returns-then-not-orders_ok : goal.returns-then-not-orders_ok
returns-then-not-orders_ok c =
    let e = run_nine _ _ (accepted c) (sym c.orders_ok.ensures ∙ c.if-not-orders_ok.true) in
    record { dump_is = refused_dump _ _ _ _ (sym e ∙ sym (before_room _ _ _ (λ z. nine_some (sym e ∙ z)))); reads_back = reads_back; times_of_runs = times_of_runs; room_holds = λ z. absurd (nine_some (sym e ∙ z)) }

pub invariant_of-program : goal.invariant_of-program
invariant_of-program c = record { starts = c.in_ok-loaded.ensures.loaded.usable.starts; totals_of = c.in_ok-loaded.ensures.loaded.totals }

pub invariant_of-program-2 : goal.invariant_of-program-2
invariant_of-program-2 c = record { runs = runs c.in_ok-loaded.ensures.loaded.usable }

whole : (c : goal.After-values-1) → orders_ok c.args.orders.now ≡ true
whole c = sym c.orders_ok.ensures ∙ c.if-not-orders_ok.false

pub trace-count-requires : goal.trace-count-requires
trace-count-requires c = record { valid = c.first-c.ensures.valid; orders_len_bound = orders_few _ [] (whole c); times_len = refl; values_len = refl }

pub slice_bounds-types-end : goal.slice_bounds-types-end
slice_bounds-types-end c = signals_fit c.in_ok-loaded.ensures.loaded c.signal_types-types.result (search rules)

pub slice_bounds-put_dump-end : goal.slice_bounds-put_dump-end
slice_bounds-put_dump-end c = length-take_of_le _ _ (signals_fit c.in_ok-loaded.ensures.loaded c.signal_types-types.result (search rules))

pub slice_bounds-types-end-2 : goal.slice_bounds-types-end-2
slice_bounds-types-end-2 c = signals_fit c.in_ok-loaded.ensures.loaded c.signal_types-types.result (search rules)

pub slice_bounds-put_dump-end-5 : goal.slice_bounds-put_dump-end-5
slice_bounds-put_dump-end-5 c = length-take_of_le _ _ (signals_fit c.in_ok-loaded.ensures.loaded c.signal_types-types.result (search rules))

pub put_dump-length-requires : goal.put_dump-length-requires
put_dump-length-requires c =
    let long_types : length c.signal_types-types.result ≡ 32 = search rules in
    let k = kept {orders = c.args.orders.now} c.in_ok-loaded.ensures.loaded long_types c.trace-count.auto.times c.trace-count.auto.values c.signal_types-types.ensures c.first-c.ensures.is c.trace-count.ensures in
    record { types_len = k.types_len; times_len = k.times_len; values_len = k.values_len }

pub returns-then-length-out : goal.returns-then-length-out
returns-then-length-out c =
    let long_types : length c.signal_types-types.result ≡ 32 = search rules in
    let k = kept {orders = c.args.orders.now} c.in_ok-loaded.ensures.loaded long_types c.trace-count.auto.times c.trace-count.auto.values c.signal_types-types.ensures c.first-c.ensures.is c.trace-count.ensures in
    let free = run_free c.args.model.now c.args.orders.now (sym c.in_ok-loaded.ensures.refusal) (sym c.orders_ok.ensures ∙ c.if-not-orders_ok.false) in
    let test = c.if-length-out.true in
    record { dump_is = refused_dump _ _ _ _ (sym (no_room _ _ _ free (omega (arith, long k c.put_dump-length.ensures.puts)))); reads_back = reads_back; times_of_runs = times_of_runs; room_holds = holds k c.put_dump-length.ensures.puts c.put_dump-length.ensures.upper_bound }

pub put_dump-requires : goal.put_dump-requires
put_dump-requires c =
    let long_types : length c.signal_types-types.result ≡ 32 = search rules in
    let k = kept {orders = c.args.orders.now} c.in_ok-loaded.ensures.loaded long_types c.trace-count.auto.times c.trace-count.auto.values c.signal_types-types.ensures c.first-c.ensures.is c.trace-count.ensures in
    record { types_len = k.types_len; times_len = k.times_len; values_len = k.values_len }

pub returns : goal.returns
returns c =
    let long_types : length c.signal_types-types.result ≡ 32 = search rules in
    let k = kept {orders = c.args.orders.now} c.in_ok-loaded.ensures.loaded long_types c.trace-count.auto.times c.trace-count.auto.values c.signal_types-types.ensures c.first-c.ensures.is c.trace-count.ensures in
    let free = run_free c.args.model.now c.args.orders.now (sym c.in_ok-loaded.ensures.refusal) (sym c.orders_ok.ensures ∙ c.if-not-orders_ok.false) in
    record { dump_is = written_dump _ _ _ free (long k c.put_dump-length.ensures.puts) c.if-length-out.false (said k.text c.put_dump.ensures.puts); reads_back = reads_back; times_of_runs = times_of_runs; room_holds = holds k c.put_dump-length.ensures.puts c.put_dump-length.ensures.upper_bound }
