use Rattle.values.proofs.Formulas.{and_by_classes}
use Rattle.values.proofs.and.Goals as goal

pub returns : goal.returns
returns c = rw (c.gate.ensures, c.class.ensures, c.class-2.ensures) (and_by_classes _ _)
