-- An accepted model as it is lent, and the values that expressions read.
use Rattle.blocks.specs.Records.{Model}
use Rattle.blocks.specs.Lent.{model_in}
use Rattle.rules.specs.Evaluation.{Environment}
use Rattle.expressions.specs.Reading.{arrays}
use Rattle.expressions.specs.declared.program.Program.{Program}
use Rattle.expressions.specs.declared.program.Readings.{Readings}

-- the model of the program
abbrev pub model_of_program : Program → Model
model_of_program p = model_in p.records

-- what expressions read
abbrev pub read_in : Readings → Environment
read_in r = arrays r.variables.now r.signals.now
