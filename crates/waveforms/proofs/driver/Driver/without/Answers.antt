-- `without`: the loop's steps. Assumes nothing.
use native.Mathlib.Omega.{arith}
use Rattle.waveforms.proofs.Schedules.{count_left, next_left, without_is}
use Rattle.waveforms.proofs.driver.Driver.without.Goals as goal

pub without_first-self-requires : goal.without_first-self-requires
without_first-self-requires c =
    let n = count_left c.args.self c.loop.self c.loop.counter c.loop.invariant in
    record { le_count = omega (arith, n, c.requires.n_le_count, c.loop-test.true); count_bound = omega (arith, n, c.requires.count_bound) }

pub loop-preserved : goal.loop-preserved
loop-preserved c = next_left c.args.self c.loop.self c.loop.counter c.loop.invariant c.without_first-self.result c.without_first-self.ensures

pub returns : goal.returns
returns c = without_is c.args.self c.loop.self c.loop.counter c.loop.invariant c.args.n (omega (arith, c.loop.auto, c.loop-test.false)) c.requires.count_bound
