-- A text is judged without buffers, and read again where it is a sentence.
-- Assumes nothing.
use Rattle.std.proofs.Common.{arith}
use Rattle.reader.specs.Reading.{behind_mark}
use Rattle.reader.proofs.Lists.{too_long, no_text, judged_none, judged_some, text_read}
use Rattle.reader.proofs.read.Goals as goal

pub returns-then-text-gt-LONGEST : goal.returns-then-text-gt-LONGEST
returns-then-text-gt-LONGEST c = too_long _ _ _ c.if-text-gt-LONGEST.true

pub list-judged-requires : goal.list-judged-requires
list-judged-requires c = (omega arith, omega (arith, c.if-text-gt-LONGEST.false), omega arith, omega arith, behind_mark)

pub list-requires : goal.list-requires
list-requires c = (omega arith, omega (arith, c.if-text-gt-LONGEST.false), omega arith, omega arith, behind_mark)

pub returns : goal.returns
returns c = text_read (omega (arith, c.if-text-gt-LONGEST.false)) c.in-Some.ensures

pub returns-then-is_none : goal.returns-then-is_none
returns-then-is_none c = no_text _ _ _ (judged_none _ _ _ _ _ c.list-judged.result c.if-is_none.ensures c.list-judged.ensures)

pub returns-in_default : goal.returns-in_default
returns-in_default c = absurd (judged_some _ _ _ _ _ c.list-judged.result c.if-is_none.ensures c.list-judged.ensures c.in_default.ensures)
