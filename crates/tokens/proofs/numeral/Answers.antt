-- A numeral that was kept is told, and no other. Assumes nothing.
use Rattle.tokens.proofs.Runs.{no_number, number_read, number_within}
use Rattle.tokens.proofs.numeral.Goals as goal

pub returns-then-is_numeral-clause-token : goal.returns-then-is_numeral-clause-token
returns-then-is_numeral-clause-token c = number_read _ _ c.is_numeral.ensures c.if-is_numeral.true c.in_base.ensures

pub returns-then-is_numeral-clause-bound : goal.returns-then-is_numeral-clause-bound
returns-then-is_numeral-clause-bound c = number_within _ _ c.in_base.ensures

pub returns-else-is_numeral-clause-token : goal.returns-else-is_numeral-clause-token
returns-else-is_numeral-clause-token c = no_number _ _ c.is_numeral.ensures c.if-is_numeral.false
