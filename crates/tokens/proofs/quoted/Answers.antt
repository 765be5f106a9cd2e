-- A text of less than three bytes has no byte 2; the letter and both quotes are tested. Assumes nothing.
use Rattle.tokens.proofs.Lexing.{short_quoted, no_letter, letter_quoted, quoted_is}
use Rattle.tokens.proofs.quoted.Goals as goal

pub returns-then-t-lt3 : goal.returns-then-t-lt3
returns-then-t-lt3 c = short_quoted _ c.if-t-lt3.true

pub returns-in_err-v : goal.returns-in_err-v
returns-in_err-v c = rw c.from_residual.ensures (no_letter _ c.in_err-v.ensures.0)

pub returns-then-t : goal.returns-then-t
returns-then-t c = quoted_is _ c.if-t-lt3.false c.in_ok-v.ensures c.if-t.true

pub returns-else-t : goal.returns-else-t
returns-else-t c = letter_quoted _ c.in_ok-v.ensures.0 c.in_ok-v.ensures.1 c.if-t.false
