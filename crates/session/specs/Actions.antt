-- What the code takes an order for.
use Rattle.std.specs.Prelude.{Option, Some, None}
use Rattle.blocks.specs.Records.{Model}
use Rattle.rules.specs.Configuration.{Configuration}
use Rattle.rules.specs.Orders.{Outcome, refused, delta_stepped, time_stepped, read_of}
use Rattle.cycle.specs.View.{picked_by}
use Rattle.session.specs.declared.play.Action.{Action}
use Rattle.session.specs.declared.play.Action.TheVariants.{Picks, Read, DeltaStep, TimeStep}

-- what an order does by its action; one that has none is unknown
abbrev pub done_by : Model → Option Action → Configuration → Outcome
done_by M None c = refused 11 c
done_by M (Some (Picks which)) c = picked_by M which c
done_by M (Some (Read s)) c = read_of M s c
done_by M (Some DeltaStep) c = delta_stepped M c
done_by M (Some TimeStep) c = time_stepped M c
