-- The first token decides.
-- Assumes nothing.
use Rattle.phrases.proofs.Operands.{number_leaf, logic_leaf, variable_leaf, signal_leaf}
use Rattle.phrases.proofs.operand.Goals as goal

pub returns-in-Number : goal.returns-in-Number
returns-in-Number c = number_leaf c.token-found.ensures _ c.in-Number.is

pub returns-in-Logic : goal.returns-in-Logic
returns-in-Logic c = logic_leaf c.token-found.ensures _ c.in-Logic.is

pub returns-in-Variable : goal.returns-in-Variable
returns-in-Variable c = variable_leaf c.token-found.ensures _ c.in-Variable.is

pub returns-in-Signal : goal.returns-in-Signal
returns-in-Signal c = signal_leaf c.token-found.ensures _ c.in-Signal.is
