-- The tests, one by one; a text without bytes has no digit. Assumes nothing.
use Rattle.tokens.proofs.Runs.{no_numeral, numeral_by}
use Rattle.tokens.proofs.is_numeral.Goals as goal

pub returns-then-t-eq0 : goal.returns-then-t-eq0
returns-then-t-eq0 c = no_numeral _ c.if-t-eq0.true

pub returns : goal.returns
returns c = numeral_by _ c.if-t-eq0.false c.all_digits.ensures
