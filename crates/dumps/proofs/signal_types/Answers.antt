use mathlib.Core.Path.{ap}
use Prim.Native.Nat.{◌<◌}
use native.Mathlib.Omega.{arith}
use borrow.Author.Rules.{rules}
use Rattle.blocks.specs.declared.records.SignalRecord.{SignalRecord}
use Rattle.cycle.proofs.Arrays.{filled_none, filled_more, filled_all}
use Rattle.dumps.proofs.signal_types.Goals as goal

pub loop-i-init : goal.loop-i-init
loop-i-init c = search (rules, filled_none)

pub signal-s-requires : goal.signal-s-requires
signal-s-requires c = omega (arith, c.args.program.now.records.totals_of.signals, c.loop-i-test.true)

-- there are at most 32
few : (c : goal.After-signal-s) → c.loop-i.i < 32
few c =
    omega (arith, c.args.program.now.records.totals_of.signals, c.args.program.now.runs.facts.totals.signals, c.loop-i-test.true)

pub offset_bounds-r-i : goal.offset_bounds-r-i
offset_bounds-r-i c = omega (arith, few c)

pub bounds-r-i : goal.bounds-r-i
bounds-r-i c = few c

pub loop-i-preserved : goal.loop-i-preserved
loop-i-preserved c = (omega (arith, c.loop-i-test.true), filled_more _ _ _ _ _ (few c) (ap (λ (s : SignalRecord). s.ty) c.signal-s.ensures) c.loop-i.invariant.1)

pub returns : goal.returns
returns c = filled_all _ _ _ _ _ c.loop-i-test.false c.loop-i.invariant.1
