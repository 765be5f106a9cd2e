use Rattle.values.proofs.Formulas.{or_by_classes}
use Rattle.values.proofs.or.Goals as goal

pub returns : goal.returns
returns c = rw (c.gate.ensures, c.class.ensures, c.class-2.ensures) (or_by_classes _ _)
