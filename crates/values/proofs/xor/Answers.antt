use Rattle.values.proofs.Formulas.{xor_by_classes}
use Rattle.values.proofs.xor.Goals as goal

pub returns : goal.returns
returns c =
    rw (c.choose-3.ensures, c.choose-2.ensures, c.choose.ensures)
    (rw (c.class-a.ensures, c.class-b.ensures) (xor_by_classes _ _))
