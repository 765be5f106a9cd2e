-- The digits of the number are put. Assumes nothing.
use Rattle.numerals.proofs.PutLaws.{said}
use Rattle.numerals.proofs.put.put_decimal.Goals as goal

pub returns : goal.returns
returns c = said c.decimal-k.ensures.text_after c.put.ensures
