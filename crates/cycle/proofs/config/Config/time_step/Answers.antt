-- `time_step`: the loop's steps, and the parts put together. Assumes nothing.
use mathlib.Core.Path.{refl}
use borrow.Author.Rules.{rules}
use Rattle.rules.proofs.Lists.{length_mapped}
use Rattle.cycle.proofs.Advances.{few_signals, few_drivers, few_processes, says_refused, searchable, time_says}
use Rattle.cycle.proofs.Refused.{numbered}
use Rattle.cycle.proofs.TimeView.{elapsing_none, elapsing_more, next_ahead, each_ahead, time_stepped_lem}
use Rattle.cycle.proofs.config.Config.time_step.Goals as goal

pub next_due-t-requires : goal.next_due-t-requires
next_due-t-requires c =
    let whole = searchable _ _ c.requires c.args.program.now.runs.facts in
    record { nprocesses_bound = whole.0; ndrivers_bound = whole.1.0; none_before = whole.1.1.0; none_before_2 = whole.1.1.1 }

pub time_refusal-requires : goal.time_refusal-requires
time_refusal-requires c = few_processes c.args.program.now.runs.facts c.requires

pub returns-in-Err : goal.returns-in-Err
returns-in-Err c =
    says_refused _ _ c.requires (time_says _ _ c.requires _ c.next_due-t.ensures _ c.in-Err.ensures) (numbered _) _ c.refused.ensures.result_value c.refused.ensures.keeps

pub overflow_sub-passed : goal.overflow_sub-passed
overflow_sub-passed c =
    let due = (time_says _ _ c.requires _ c.next_due-t.ensures _ c.in_default.ensures).does refl in
    due.from_now

pub shift-requires : goal.shift-requires
shift-requires c = record { nsignals_bound = few_signals c.args.program.now.runs.facts c.requires; signals_len = search rules }

pub loop-k-init : goal.loop-k-init
loop-k-init c = (few_drivers c.args.program.now.runs.facts c.requires, elapsing_none _ _ (search (rules, length_mapped)))

pub elapsed-requires : goal.elapsed-requires
elapsed-requires c =
    let f = c.requires in
    let due = (time_says _ _ f _ c.next_due-t.ensures _ c.in_default.ensures).does refl in
    next_ahead _ _ _ _ c.loop-k.invariant.1 (each_ahead _ c.args.program.now.runs.facts _ f _ due.earliest_at due.in_time _ c.loop-k-test.true)

pub loop-k-preserved : goal.loop-k-preserved
loop-k-preserved c = (c.loop-k.invariant.0, elapsing_more _ _ _ _ c.loop-k.invariant.1 (search rules) _ c.elapsed.ensures)

pub returns : goal.returns
returns c =
    let f = c.requires in
    let due = (time_says _ _ f _ c.next_due-t.ensures _ c.in_default.ensures).does refl in
    rw due.is (time_stepped_lem _ c.args.program.now.runs.facts _ f _ due.earliest_at due.in_time _ c.shift.ensures _ c.loop-k.self c.loop-k-test.false c.loop-k.invariant.1)
