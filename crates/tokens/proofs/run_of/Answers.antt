-- The first byte says what the run is. Assumes nothing.
use Rattle.std.proofs.Common.{rules, refl, sym, ◌∙◌}
use Rattle.grammar.specs.Tokens.{number_code, signal_code, variable_code}
use Rattle.tokens.specs.declared.Lexeme.TheVariants.{Number, Signal, Variable}
use Rattle.tokens.proofs.Runs.{number_token, number_run, signal_run, variable_run, word_run}
use Rattle.tokens.proofs.run_of.Goals as goal

pub returns-then-is_digit-clause-token : goal.returns-then-is_digit-clause-token
returns-then-is_digit-clause-token c =
    number_run _ _ c.is_digit.ensures c.if-is_digit.true
    (number_token Number number_code c.numeral.result c.map_or.ensures (λ v k. search rules) (λ v. refl) ∙ sym (c.numeral.ensures.token number_code))

pub returns-then-b-eq115-clause-token : goal.returns-then-b-eq115-clause-token
returns-then-b-eq115-clause-token c =
    signal_run _ _ c.is_digit.ensures c.if-is_digit.false c.if-b-eq115.true
    (number_token Signal signal_code c.numeral-then-b-eq115.result c.map_or-then-b-eq115.ensures (λ v k. search rules) (λ v. refl) ∙ sym (c.numeral-then-b-eq115.ensures.token signal_code))

pub returns-then-b-eq118-clause-token : goal.returns-then-b-eq118-clause-token
returns-then-b-eq118-clause-token c =
    variable_run _ _ c.is_digit.ensures c.if-is_digit.false c.if-b-eq115.false c.if-b-eq118.true
    (number_token Variable variable_code c.numeral-then-b-eq118.result c.map_or-then-b-eq118.ensures (λ v k. search rules) (λ v. refl) ∙ sym (c.numeral-then-b-eq118.ensures.token variable_code))

pub returns-clause-token : goal.returns-clause-token
returns-clause-token c = word_run _ _ c.is_digit.ensures c.if-is_digit.false c.if-b-eq115.false c.if-b-eq118.false c.word_of.ensures.token
