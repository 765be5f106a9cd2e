-- The form decides. Assumes nothing.
use Rattle.std.proofs.Common.{rules}
use Rattle.given.specs.Names.{name_ok}
use Rattle.given.proofs.NameLaws.{no_name}
use Rattle.given.proofs.name_ok.Goals as goal

pub returns-in-Signal : goal.returns-in-Signal
unfolding name_ok
returns-in-Signal c = search rules

pub returns-in-Variable : goal.returns-in-Variable
unfolding name_ok
returns-in-Variable c = search rules

pub returns-in_default : goal.returns-in_default
returns-in_default c = no_name _ _ _ c.requires c.in_default.not-Signal c.in_default.not-Variable
