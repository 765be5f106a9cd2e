-- `wake`: the loop's steps. Assumes nothing.
use borrow.Author.Rules.{length_unmapped}
use Prim.Native.Nat.{◌<◌}
use Rattle.base.proofs.Turns.{turn_there, turn_room}
use Rattle.steps.proofs.DeltaProcesses.{waking_none, waking_valid, waking_more, waking_same, waking_all}
use Rattle.steps.proofs.delta.wake.Goals as goal
use Rattle.steps.proofs.delta.wake.Goals.{then-r-q, else-r-q}

pub loop-p-init : goal.loop-p-init
loop-p-init c = waking_none _ _ _ _ _ (record { places = search (length_unmapped); standings = search (length_unmapped); deadlines = search (length_unmapped); faults = search (length_unmapped); nodes = search (length_unmapped) })

pub after_delta-r-requires : goal.after_delta-r-requires
after_delta-r-requires c =
    record {
      p_in_bounds = turn_there 16 _ _ _ c.requires.nprocesses_value c.args.program.now.runs.facts.totals.processes c.loop-p-test.true;
      time_le_last_time = c.requires.time_le_last_time;
      process_valid = waking_valid _ _ _ _ _ _ _ _ c.loop-p-test.true c.requires.processes_valid c.loop-p.invariant;
    }

pub loop-p-preserved : goal.loop-p-preserved
loop-p-preserved c =
    let small : c.loop-p.p < 16 = turn_room 16 _ _ _ c.requires.nprocesses_value c.args.program.now.runs.facts.totals.processes c.loop-p-test.true in
    elim c.if-r-q.branch [
      | then-r-q w ↦ rw w.ps-is (waking_more _ _ _ _ _ _ _ _ small c.after_delta-r.ensures c.loop-p.invariant)
      | else-r-q w ↦ rw w.ps-is (waking_same _ _ _ _ _ _ _ c.after_delta-r.result c.after_delta-r.ensures w.if-r-q.false c.loop-p.invariant)
    ]

pub returns : goal.returns
returns c = waking_all _ _ _ _ _ _ _ _ c.loop-p.auto.p-end c.loop-p-test.false c.loop-p.invariant
