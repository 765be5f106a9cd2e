-- `nearer`: the times passed are n less, the others stand. Assumes nothing.
use Rattle.waveforms.proofs.Drivers.{Nearing}
use Rattle.waveforms.proofs.driver.nearer.Given as goal

abbrev pub invariant-loop-i : goal.invariant-loop-i
invariant-loop-i l = Nearing l.initial.times l.n l.i l.times
