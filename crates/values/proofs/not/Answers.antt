use Rattle.values.proofs.Formulas.{not_by_class}
use Rattle.values.proofs.not.Goals as goal

pub returns : goal.returns
returns c = rw (c.choose-2.ensures, c.choose.ensures, c.class-a.ensures) (not_by_class _)
