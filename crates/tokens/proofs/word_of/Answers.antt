-- A word that was kept is told, and no other. Assumes nothing.
use Rattle.std.proofs.Common.{rules}
use Rattle.grammar.specs.Tokens.{word_of}
use Rattle.tokens.proofs.Runs.{code_token, code_stands, run_word}
use Rattle.tokens.proofs.word_of.Goals as goal

pub returns-clause-token : goal.returns-clause-token
unfolding word_of
returns-clause-token c = code_token _ _ _ c.in_base.ensures c.map_or.ensures (λ v k. search rules)

pub returns-clause-stands : goal.returns-clause-stands
returns-clause-stands c h = code_stands _ _ _ c.in_base.ensures c.map_or.ensures (λ v k. search rules) (run_word _ h)
