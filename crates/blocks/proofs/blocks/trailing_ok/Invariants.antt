use mathlib.Core.Path.{◌≡◌}
use Rattle.base.specs.Below.{all_below}
use Rattle.blocks.specs.Blocks.{trailing_at}
use Rattle.blocks.proofs.blocks.trailing_ok.Given as goal

abbrev pub invariant-loop-i : goal.invariant-loop-i
invariant-loop-i l = l.ok ≡ all_below (trailing_at l.m l.b) l.i
