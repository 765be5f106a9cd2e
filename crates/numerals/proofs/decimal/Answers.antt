-- The digits are those of the definition. Assumes nothing.
use mathlib.Core.Path.{◌∙◌}
use Rattle.numerals.proofs.NumeralLaws.{decimal_is}
use Rattle.numerals.proofs.decimal.Goals as goal

pub returns : goal.returns
returns c = record { prefix_len = c.decimal.ensures.in_bounds; text_after = c.decimal.ensures.digits ∙ decimal_is _ _ c.ranges.n.fits c.decimal.ensures.len }
