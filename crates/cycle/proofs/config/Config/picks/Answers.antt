-- `picks`: each arm makes a `Turn`. Assumes nothing.
use Prim.Native.Nat.{◌+◌}
use native.Mathlib.Omega.{arith}
use borrow.Author.Rules.{rules}
use Rattle.rules.proofs.Lists.{length_mapped}
use Rattle.cycle.proofs.Changes.{Sized}
use Rattle.cycle.proofs.OrderLaws.{named, picks_answer, tellable}
use Rattle.cycle.proofs.Turning.{few_processes, statement_there, turning_none, turning_end, turning_over, turning_made, turn_made, inside, process_in_model, place_spans, in_variables, in_drivers, waveform, word_held, early, wait_small, skip_turn, store_turn, jump_turn, wait_turn, wait_for_turn, stop_turn, full_turn, schedule_turn}
use Rattle.cycle.proofs.config.Config.picks.Goals as goal

pub refusal_of-refusal-requires : goal.refusal_of-refusal-requires
refusal_of-refusal-requires c = few_processes c.args.program.now.runs.facts c.requires

pub loop-n-init : goal.loop-n-init
loop-n-init c =
    let sized : Sized c.args.self = record {
      due = search rules;
      drivers = search (rules, length_mapped);
      places = search rules;
      standings = search rules;
      deadlines = search rules;
      faults = search rules;
      nodes = search rules;
      variables = search rules;
    } in
    let part = c.turns_of-turns.result in
    turning_none _ c.args.program.now.runs.facts part.set part.stride part.count part.first _ sized c.requires

pub loop-n-preserved-then-standing-has : goal.loop-n-preserved-then-standing-has
loop-n-preserved-then-standing-has c = turning_over c.loop-n.invariant c.loop-n-test.true c.has.ensures c.if-standing-has.true

pub effect_of-effect-requires : goal.effect_of-effect-requires
effect_of-effect-requires c =
    statement_there _ c.args.program.now.runs.facts _ c.loop-n.invariant.valid _ (inside c.loop-n.invariant c.loop-n-test.true)

pub next_place-next-requires : goal.next_place-next-requires
next_place-next-requires c =
    let t = (turn_made c.loop-n.invariant c.loop-n-test.true c.args.program.now.runs.facts c.has.ensures c.if-standing-has.false c.effect_of-effect.ensures) in
    record { p_in_bounds = process_in_model t; spans = place_spans t }

pub loop-n-preserved-in-Skip : goal.loop-n-preserved-in-Skip
loop-n-preserved-in-Skip c =
    turning_made c.loop-n.invariant c.loop-n-test.true c.args.program.now.runs.facts c.has.ensures c.if-standing-has.false c.effect_of-effect.ensures
    (λ t. skip_turn t c.in-Skip.is _ c.next_place-next.ensures)

pub offset_bounds-self-a : goal.offset_bounds-self-a
offset_bounds-self-a c =
    omega (arith, in_variables (turn_made c.loop-n.invariant c.loop-n-test.true c.args.program.now.runs.facts c.has.ensures c.if-standing-has.false c.effect_of-effect.ensures) _ _ c.in-Store.is)

pub bounds-self-a : goal.bounds-self-a
bounds-self-a c =
    in_variables (turn_made c.loop-n.invariant c.loop-n-test.true c.args.program.now.runs.facts c.has.ensures c.if-standing-has.false c.effect_of-effect.ensures) _ _ c.in-Store.is

pub loop-n-preserved-in-Store : goal.loop-n-preserved-in-Store
loop-n-preserved-in-Store c =
    turning_made c.loop-n.invariant c.loop-n-test.true c.args.program.now.runs.facts c.has.ensures c.if-standing-has.false c.effect_of-effect.ensures
    (λ t. store_turn t _ _ c.in-Store.is _ c.next_place-next.ensures)

pub offset_bounds-self-k : goal.offset_bounds-self-k
offset_bounds-self-k c =
    omega (arith, in_drivers (turn_made c.loop-n.invariant c.loop-n-test.true c.args.program.now.runs.facts c.has.ensures c.if-standing-has.false c.effect_of-effect.ensures) _ _ _ _ c.in-Schedule.is)

pub bounds-self-k : goal.bounds-self-k
bounds-self-k c =
    in_drivers (turn_made c.loop-n.invariant c.loop-n-test.true c.args.program.now.runs.facts c.has.ensures c.if-standing-has.false c.effect_of-effect.ensures) _ _ _ _ c.in-Schedule.is

pub offset_bounds-self-k-in-Some : goal.offset_bounds-self-k-in-Some
offset_bounds-self-k-in-Some c =
    omega (arith, in_drivers (turn_made c.loop-n.invariant c.loop-n-test.true c.args.program.now.runs.facts c.has.ensures c.if-standing-has.false c.effect_of-effect.ensures) _ _ _ _ c.in-Schedule.is)

pub bounds-self-k-in-Some : goal.bounds-self-k-in-Some
bounds-self-k-in-Some c =
    in_drivers (turn_made c.loop-n.invariant c.loop-n-test.true c.args.program.now.runs.facts c.has.ensures c.if-standing-has.false c.effect_of-effect.ensures) _ _ _ _ c.in-Schedule.is

pub offset_bounds-self-k-in-Some-2 : goal.offset_bounds-self-k-in-Some-2
offset_bounds-self-k-in-Some-2 c =
    omega (arith, in_drivers (turn_made c.loop-n.invariant c.loop-n-test.true c.args.program.now.runs.facts c.has.ensures c.if-standing-has.false c.effect_of-effect.ensures) _ _ _ _ c.in-Schedule.is)

pub bounds-self-k-in-Some-2 : goal.bounds-self-k-in-Some-2
bounds-self-k-in-Some-2 c =
    in_drivers (turn_made c.loop-n.invariant c.loop-n-test.true c.args.program.now.runs.facts c.has.ensures c.if-standing-has.false c.effect_of-effect.ensures) _ _ _ _ c.in-Schedule.is

pub schedule-requires : goal.schedule-requires
schedule-requires c =
    let t = (turn_made c.loop-n.invariant c.loop-n-test.true c.args.program.now.runs.facts c.has.ensures c.if-standing-has.false c.effect_of-effect.ensures) in
    record { waveform = waveform t _ _ _ _ c.in-Schedule.is; value_value = word_held t _ _ _ _ c.in-Schedule.is }

pub first_time-requires : goal.first_time-requires
first_time-requires c = early (turn_made c.loop-n.invariant c.loop-n-test.true c.args.program.now.runs.facts c.has.ensures c.if-standing-has.false c.effect_of-effect.ensures)

pub loop-n-preserved-in-Some : goal.loop-n-preserved-in-Some
loop-n-preserved-in-Some c =
    turning_made c.loop-n.invariant c.loop-n-test.true c.args.program.now.runs.facts c.has.ensures c.if-standing-has.false c.effect_of-effect.ensures
    (λ t. schedule_turn t _ _ _ _ c.in-Schedule.is _ c.in-Some.ensures _ _ c.first_time.ensures c.next_place-next.ensures)

pub loop-n-preserved-in-None : goal.loop-n-preserved-in-None
loop-n-preserved-in-None c =
    turning_made c.loop-n.invariant c.loop-n-test.true c.args.program.now.runs.facts c.has.ensures c.if-standing-has.false c.effect_of-effect.ensures
    (λ t. full_turn t _ _ _ _ c.in-Schedule.is c.in-None.ensures)

pub loop-n-preserved-in-Jump : goal.loop-n-preserved-in-Jump
loop-n-preserved-in-Jump c =
    turning_made c.loop-n.invariant c.loop-n-test.true c.args.program.now.runs.facts c.has.ensures c.if-standing-has.false c.effect_of-effect.ensures
    (λ t. jump_turn t _ c.in-Jump.is)

pub loop-n-preserved-in-Wait : goal.loop-n-preserved-in-Wait
loop-n-preserved-in-Wait c =
    turning_made c.loop-n.invariant c.loop-n-test.true c.args.program.now.runs.facts c.has.ensures c.if-standing-has.false c.effect_of-effect.ensures
    (λ t. wait_turn t c.in-Wait.is)

pub overflow_add-self : goal.overflow_add-self
overflow_add-self c =
    let t = (turn_made c.loop-n.invariant c.loop-n-test.true c.args.program.now.runs.facts c.has.ensures c.if-standing-has.false c.effect_of-effect.ensures) in
    omega (arith, early t, wait_small t _ c.in-WaitFor.is)

pub loop-n-preserved-in-WaitFor : goal.loop-n-preserved-in-WaitFor
loop-n-preserved-in-WaitFor c =
    turning_made c.loop-n.invariant c.loop-n-test.true c.args.program.now.runs.facts c.has.ensures c.if-standing-has.false c.effect_of-effect.ensures
    (λ t. wait_for_turn t _ c.in-WaitFor.is (c.args.self.time + c.from.result) (rw c.from.ensures))

pub loop-n-preserved : goal.loop-n-preserved
loop-n-preserved c =
    turning_made c.loop-n.invariant c.loop-n-test.true c.args.program.now.runs.facts c.has.ensures c.if-standing-has.false c.effect_of-effect.ensures
    (λ t. stop_turn t _ c.in-Stop.is)

pub reply-answer-requires : goal.reply-answer-requires
reply-answer-requires c =
    record {
      nprocesses_bound = few_processes c.args.program.now.runs.facts c.requires;
      named = named c.args.which _ _ _ c.refusal_of-refusal.ensures;
      tellable = tellable c.args.program.now.runs.facts c.loop-n.invariant.valid _ c.loop-n.invariant.whole;
    }

pub returns : goal.returns
returns c =
    let inv = c.loop-n.invariant in
    picks_answer c.args.which
    (record {
      facts = c.args.program.now.runs.facts;
      before = c.requires;
      valid = inv.valid;
      asked = c.refusal_of-refusal.ensures;
      turns = c.turns_of-turns.result;
      part = c.turns_of-turns.ensures;
      rest = turning_end inv c.loop-n-test.false;
    })
    _ c.reply-answer.ensures
