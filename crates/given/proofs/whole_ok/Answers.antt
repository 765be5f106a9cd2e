-- The three numbers are bytes, so no sum wraps. Assumes nothing.
use Rattle.given.specs.Given.{whole_ok}
use Rattle.given.proofs.whole_ok.Goals as goal

pub returns : goal.returns
unfolding whole_ok
returns c = rw (c.byte_or_zero.ensures.value, c.byte_or_zero-2.ensures.value, c.byte_or_zero-3.ensures.value)
