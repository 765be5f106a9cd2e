-- A text of less than two bytes has no byte 1. Assumes nothing.
use mathlib.Core.Path.{refl, sym}
use Rattle.grammar.specs.Tokens.{is_pair}
use Rattle.tokens.proofs.Lexing.{short_pair}
use Rattle.tokens.proofs.is_pair.Goals as goal

pub returns-then-t-lt2 : goal.returns-then-t-lt2
returns-then-t-lt2 c = sym (short_pair _ c.if-t-lt2.true)

pub returns : goal.returns
unfolding is_pair
returns c = refl
