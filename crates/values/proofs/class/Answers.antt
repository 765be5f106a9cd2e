use Rattle.values.specs.Nine.{is_u, low, high}
use Rattle.values.proofs.class.Goals as goal

pub returns : goal.returns
unfolding is_u low high
returns c = rw (← c.choose.ensures, ← c.choose-2.ensures) c.choose-3.ensures
