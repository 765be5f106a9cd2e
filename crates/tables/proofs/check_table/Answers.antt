use mathlib.Core.Path.{sym, ◌∙◌}
use Rattle.tables.proofs.Entries.{none_passes, not_symmetric, not_associative, both_hold}
use Rattle.tables.proofs.check_table.Goals as goal

pub returns-then-t-eq0 : goal.returns-then-t-eq0
returns-then-t-eq0 c = none_passes _ (sym c.requires.totals_of.rows ∙ c.if-t-eq0.true)

pub returns-then-not-symmetric : goal.returns-then-not-symmetric
returns-then-not-symmetric c = not_symmetric _ (λ z. c.if-t-eq0.false (c.requires.totals_of.rows ∙ z)) _ c.requires.table_in.table (sym c.symmetric.ensures ∙ c.if-not-symmetric.true)

pub returns-then-not-associative : goal.returns-then-not-associative
returns-then-not-associative c = not_associative _ (λ z. c.if-t-eq0.false (c.requires.totals_of.rows ∙ z)) _ c.requires.table_in.table (sym c.symmetric.ensures ∙ c.if-not-symmetric.false) (sym c.associative.ensures ∙ c.if-not-associative.true)

pub returns : goal.returns
returns c = both_hold _ (λ z. c.if-t-eq0.false (c.requires.totals_of.rows ∙ z)) _ c.requires.table_in.table (sym c.symmetric.ensures ∙ c.if-not-symmetric.false) (sym c.associative.ensures ∙ c.if-not-associative.false)
