-- Each arm is a case of the definition. Assumes nothing.
use borrow.Author.Rules.{rules}
use Rattle.vcd.proofs.ValueLaws.{zero_is, one_is, high_is, unknown_is}
use Rattle.vcd.proofs.character.Goals as goal

pub returns-in-2 : goal.returns-in-2
returns-in-2 c = zero_is _ c.in-2.is

pub returns-in-3 : goal.returns-in-3
returns-in-3 c = one_is _ c.in-3.is

pub returns-in-4 : goal.returns-in-4
returns-in-4 c = high_is _ c.in-4.is

pub returns-in_default : goal.returns-in_default
returns-in_default c = unknown_is _ (search rules) (search rules) (search rules)
