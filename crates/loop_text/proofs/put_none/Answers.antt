-- The line has room. Assumes nothing.
use native.Mathlib.Omega.{arith}
use Rattle.loop_text.proofs.put_none.Goals as goal

pub returns : goal.returns
returns c =
    let w = c.put.ensures in
    record { upper_bound = omega (arith, c.put.auto.out, w.place, c.requires); out_after = w.bytes (omega (arith, w.place, c.requires)) }
