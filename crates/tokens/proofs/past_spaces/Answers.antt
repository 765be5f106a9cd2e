-- The first byte that is no space, if there is one. Assumes nothing.
use Rattle.std.proofs.Common.{rules}
use borrow.Author.Tests.{tests}
use Rattle.std.proofs.lemmas.Iterator.{YieldsList-from_slice}
use Rattle.std.proofs.lemmas.Iterator.Search.{position_from_yields_List}
use Rattle.tokens.proofs.Lexing.{no_space, spaces_over, space_found}
use Rattle.tokens.proofs.Runs.{rest}
use Rattle.tokens.proofs.past_spaces.Goals as goal

pub returns-in_err-n : goal.returns-in_err-n
returns-in_err-n c = rw c.from_residual.ensures (spaces_over c.args.text.now c.args.at (position_from_yields_List no_space _ _ _ c.position.ensures.ran (YieldsList-from_slice (rest c.args.at c.args.text.now) cc) (λ x b q k. search (rules, tests))) c.in_err-n.was)

pub returns : goal.returns
returns c = space_found c.args.text.now c.args.at (position_from_yields_List no_space _ _ _ c.position.ensures.ran (YieldsList-from_slice (rest c.args.at c.args.text.now) cc) (λ x b q k. search (rules, tests))) c.requires _ c.in_ok-n.was
