-- The names decide, then the totals.
-- Assumes nothing.
use Rattle.text_model.proofs.GivenLaws.{name_missing, given_good, given_bad}
use Rattle.text_model.proofs.check_given.Goals as goal

pub returns-then-not-names_ok : goal.returns-then-not-names_ok
returns-then-not-names_ok c p n m = name_missing _ _ p c.byte_or_zero-signals.ensures c.byte_or_zero-variables.ensures c.names_ok.ensures c.if-not-names_ok.true

pub returns-then-whole_ok-totals_ok : goal.returns-then-whole_ok-totals_ok
returns-then-whole_ok-totals_ok c p n m =
    given_good _ _ p c.byte_or_zero-signals.ensures c.byte_or_zero-variables.ensures c.byte_or_zero.ensures n m c.names_ok.ensures c.if-not-names_ok.false c.whole_ok.ensures c.totals_ok.ensures c.if-whole_ok-totals_ok.true

pub returns : goal.returns
returns c p n m =
    given_bad _ _ p c.byte_or_zero-signals.ensures c.byte_or_zero-variables.ensures c.byte_or_zero.ensures n m c.names_ok.ensures c.if-not-names_ok.false c.whole_ok.ensures c.totals_ok.ensures c.if-whole_ok-totals_ok.false
