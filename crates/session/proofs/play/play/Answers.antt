use Rattle.std.specs.Prelude.{Option, Some}
use Rattle.std.proofs.Common.{◌≡◌, ap, ◌∙◌}
use Prim.Native.Nat.{◌*◌}
use native.Mathlib.Omega.{arith}
use Rattle.blocks.specs.Records.{Model}
use Rattle.expressions.specs.Lent.{model_of_program}
use Rattle.rules.specs.Configuration.{Configuration}
use Rattle.cycle.specs.View.{view_of}
use Rattle.cycle.proofs.Advances.{few_signals}
use Rattle.session.specs.Actions.{done_by}
use Rattle.session.specs.declared.play.Action.{Action}
use Rattle.session.specs.declared.play.Action.TheVariants.{Read}
use Rattle.session.specs.Lists.{order, performed, played_by}
use Rattle.session.proofs.PlayLaws.{Reading, playing_next, refused_gives, gives, read_gives, no_orders, all_written}
use Rattle.session.proofs.play.play.Goals as goal
use Rattle.session.proofs.play.play.Goals.{in-None, in-Some-Picks, in-Some-Read, in-Some-DeltaStep, in-Some-TimeStep}

pub read-r-requires : goal.read-r-requires
read-r-requires c = few_signals c.args.program.now.runs.facts c.loop-i.invariant.valid

-- what holds in every arm
reading : (c : goal.After-slice_known-in-loop-i-1) (a : Option Action) →
    ((M : Model) (d : Configuration) → performed M (order c.byte-kind.result c.byte-argument.result c.word-count.result) d ≡ done_by M a d) →
    Reading (model_of_program c.args.program.now) c.args.orders.now (view_of c.args.c) c.loop-i.i c.loop-i.at c.loop-i.answers c.byte-kind.result c.byte-argument.result c.word-count.result a
reading c a e =
    record {
      playing = c.loop-i.invariant;
      here = c.loop-i-test.true;
      kind_read = c.byte-kind.ensures.value;
      argument_read = c.byte-argument.ensures.value;
      count_read = c.word-count.ensures.value;
      action = e;
    }

pub loop-i-preserved : goal.loop-i-preserved
loop-i-preserved c =
    let order = reading c c.action_of.result c.action_of.ensures in
    playing_next order
    (elim c.match-action_of.branch [
      | in-None w ↦ rw (w.at-is, w.answer-is) (refused_gives order w.in-None.is _ c.refused-answer.ensures)
      | in-Some-Picks w ↦ rw (w.at-is, w.answer-is) (gives order _ (w.in-Some-Picks.is ∙ ap Some w.in-Some-Picks.field-0-is) _ (rw w.in-Some-Picks.which-is at w.picks-r.ensures))
      | in-Some-Read w ↦ rw (w.at-is, w.answer-is) (read_gives order _ (w.in-Some-Read.is ∙ ap Some w.in-Some-Read.field-0-is) _ (rw w.in-Some-Read.signal-is at w.read-r.ensures.read_to) w.read-r.ensures.keeps)
      | in-Some-DeltaStep w ↦ rw (w.at-is, w.answer-is) (gives order _ (w.in-Some-DeltaStep.is ∙ ap Some w.in-Some-DeltaStep.field-0-is) _ w.delta_step-r.ensures)
      | in-Some-TimeStep w ↦ rw (w.at-is, w.answer-is) (gives order _ (w.in-Some-TimeStep.is ∙ ap Some w.in-Some-TimeStep.field-0-is) _ w.time_step-r.ensures)
    ])
    c.put_answer.ensures

pub returns : goal.returns
unfolding played_by
returns c =
    let inv = c.loop-i.invariant in
    let n = no_orders c.args.orders.now c.loop-i.i c.loop-i-test.false in record {
      played_to = record {
        end = rw n at inv.end;
        answers = all_written _ _ (16 * c.loop-i.i) (omega arith) (rw n at inv.bytes);
      };
      valid_2 = inv.valid;
    }
