-- `delta_step`: the loop's steps, and the parts put together. Assumes nothing.
use mathlib.Core.Path.{refl, ◌∙◌}
use borrow.Author.Rules.{rules}
use Rattle.rules.proofs.Lists.{length_mapped}
use Rattle.cycle.proofs.Advances.{few_signals, few_drivers, few_processes, says_refused, searchable, delta_says}
use Rattle.cycle.proofs.DeltaDrivers.{slot_of, some_pending, slot_taken, slot_kept, taking_none, taking_more, taking_same, time_most_lem, next_timed, next_few, deltas_kept}
use Rattle.cycle.proofs.DeltaView.{delta_answers, processes_kept}
use Rattle.cycle.proofs.Refused.{numbered}
use Rattle.cycle.proofs.ViewLaws.{nsignals_is, ndrivers_is, nprocesses_is}
use Rattle.cycle.proofs.config.Config.delta_step.Goals as goal
use Rattle.cycle.proofs.config.Config.delta_step.Goals.{then-self-k, else-self-k}

pub next_due-t-requires : goal.next_due-t-requires
next_due-t-requires c =
    let whole = searchable _ _ c.requires c.args.program.now.runs.facts in
    record { nprocesses_bound = whole.0; ndrivers_bound = whole.1.0; none_before = whole.1.1.0; none_before_2 = whole.1.1.1 }

pub delta_refusal-requires : goal.delta_refusal-requires
delta_refusal-requires c = few_processes c.args.program.now.runs.facts c.requires

pub returns-in-Err : goal.returns-in-Err
returns-in-Err c =
    says_refused _ _ c.requires (delta_says _ _ c.requires _ c.next_due-t.ensures _ c.in-Err.ensures) (numbered _) _ c.refused.ensures.result_value c.refused.ensures.keeps

pub actives-active-requires : goal.actives-active-requires
actives-active-requires c = ndrivers_is _ _ c.requires.reachable

pub loop-k-init : goal.loop-k-init
loop-k-init c = (few_drivers c.args.program.now.runs.facts c.requires, taking_none _ (search rules) (search rules) (search rules) (search (rules, length_mapped)))

pub without_first-e-requires : goal.without_first-e-requires
without_first-e-requires c =
    let f = c.requires in
    record {
      le_count = some_pending _ (slot_of c.loop-k.self c.loop-k.k) (next_timed _ _ f _ c.loop-k-test.true _ c.loop-k.invariant.1) (time_most_lem _ _ f) c.if-self-k.true;
      count_bound = next_few _ _ f _ c.loop-k-test.true _ c.loop-k.invariant.1;
    }

pub first_time-requires : goal.first_time-requires
first_time-requires c = time_most_lem _ _ c.requires

pub loop-k-preserved : goal.loop-k-preserved
loop-k-preserved c =
    let f = c.requires in
    let timed = next_timed _ _ f _ c.loop-k-test.true _ c.loop-k.invariant.1 in (
      c.loop-k.invariant.0,
      elim c.if-self-k.branch [
        | then-self-k w ↦ rw w.self-is (taking_more _ _ _ c.loop-k.invariant.1 (search rules) _ (slot_taken _ (slot_of c.loop-k.self c.loop-k.k) timed (time_most_lem _ _ f) w.if-self-k.true _ _ w.without_first-e.ensures w.first_time.ensures))
        | else-self-k w ↦ rw w.self-is (taking_same _ _ _ c.loop-k.invariant.1 (slot_kept _ (slot_of c.loop-k.self c.loop-k.k) timed w.if-self-k.false))
      ],
    )

pub keep-requires : goal.keep-requires
keep-requires c = record { n_bound = few_signals c.args.program.now.runs.facts c.requires; signals_len = c.loop-k.invariant.1.signals }

pub resolve-changed-requires : goal.resolve-changed-requires
resolve-changed-requires c =
    let r = c.requires.reachable in
    record { ndrivers_value = ndrivers_is _ _ r; nsignals_value = nsignals_is _ _ r; signals_len = c.keep.ensures.long ∙ c.loop-k.invariant.1.signals }

pub wake-r-requires : goal.wake-r-requires
wake-r-requires c =
    let f = c.requires in
    record {
      nprocesses_value = nprocesses_is _ _ f.reachable;
      time_le_last_time = time_most_lem _ _ f;
      processes_valid = processes_kept _ c.args.program.now.runs.facts _ f _ c.actives-active.ensures _ _ c.loop-k.invariant.1;
    }

pub overflow_add-self : goal.overflow_add-self
overflow_add-self c =
    let due = (delta_says _ _ c.requires _ c.next_due-t.ensures _ c.in_default.ensures).does refl in
    search (rules, deltas_kept _ _ _ c.loop-k.invariant.1, due.few)

pub returns : goal.returns
returns c =
    let f = c.requires in
    let due = (delta_says _ _ f _ c.next_due-t.ensures _ c.in_default.ensures).does refl in
    rw due.is
    (delta_answers _ c.args.program.now.runs.facts _ f _ c.actives-active.ensures _ c.loop-k.self _ _ _ _ c.loop-k-test.false c.loop-k.invariant.1 (record { keeps = c.keep.ensures; resolved = c.resolve-changed.ensures; woken = c.wake-r.ensures }) due.few)
