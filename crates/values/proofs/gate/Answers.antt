use Rattle.values.proofs.gate.Goals as goal

pub returns : goal.returns
returns c = rw (← c.choose.ensures, ← c.choose-2.ensures) c.choose-3.ensures
