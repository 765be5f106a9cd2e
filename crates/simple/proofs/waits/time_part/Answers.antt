-- The first token decides.
-- Assumes nothing.
use Rattle.std.proofs.Common.{rules}
use Rattle.simple.proofs.WaitLaws.{found_semicolon, found_for}
use Rattle.simple.proofs.waits.time_part.Goals as goal

pub returns-then-eq : goal.returns-then-eq
returns-then-eq c = found_semicolon c.token-found.ensures _ (search rules) c.requires.2

pub returns : goal.returns
returns c = found_for c.token-found.ensures (search rules) c.in_ok-e.ensures c.requires.1
