-- The lines are counted.
use mathlib.Core.Path.{refl}
use Rattle.cases.specs.Waves.{inverter_dump}
use Rattle.cases.proofs.Waves.{as_dumped}
use Rattle.cases.proofs.dump_lines.Goals as goal

pub returns : goal.returns
unfolding inverter_dump
returns c = record { value = refl; inverter_dumped = as_dumped }
