-- `run_start`: back from the last, as long as the value is that of v. Assumes nothing.
use Rattle.waveforms.specs.Waveform.{Run}
use Rattle.waveforms.proofs.driver.run_start.Given as goal

abbrev pub invariant-loop-last : goal.invariant-loop-last
invariant-loop-last l = Run l.values l.count l.v l.last
