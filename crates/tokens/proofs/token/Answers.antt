-- The token at the first byte that is no space, or the end. Assumes nothing.
use Rattle.tokens.proofs.Lexing.{first_token, first_end}
use Rattle.tokens.proofs.token.Goals as goal

pub returns-in-Some : goal.returns-in-Some
returns-in-Some c = first_token _ _ _ _ c.in-Some.ensures c.token_at-found.ensures

pub returns : goal.returns
returns c = first_end _ _ c.requires c.in_default.ensures
