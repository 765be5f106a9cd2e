-- The number's text has room. Assumes nothing.
use native.Mathlib.Omega.{arith}
use Rattle.text.proofs.put_refusal.Goals as goal

pub returns : goal.returns
returns c = record { upper_bound = omega (arith, c.put_number.auto.out, c.put_number.ensures.upper_bound, c.requires); out_after = c.put_number.ensures.puts.bytes (omega (arith, c.put_number.ensures.upper_bound, c.requires)) }
