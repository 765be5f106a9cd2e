use Rattle.numerals.proofs.Bits.{places_of_log}
use Rattle.numerals.proofs.binary_places.Goals as goal

pub returns : goal.returns
returns c = places_of_log _ _ _ c.ranges.x.fits c.max.ensures c.ilog2.ensures.power_le c.ilog2.ensures.next_power_gt
