-- `in_range`: its test is that of `ranged`. Assumes nothing.
use mathlib.Core.Path.{ap, ◌∙◌}
use Prim.Native.Nat.{◌≤◌, ◌<◌}
use lib.IntN.{nat_abs}
use mir.Syntax.{w32}
use mir.Val.{of_z}
use mir.Facts.{to_z-of_z}
use borrow.Author.Tests.{lt-ltb, le-ltb}
use Rattle.std.specs.Prelude.{Ok}
use Rattle.rules.specs.Evaluation.{ranged}
use Rattle.expressions.proofs.operators.in_range.Goals as goal

pub returns-then-unsigned_abs-lt2147483648 : goal.returns-then-unsigned_abs-lt2147483648
unfolding ranged
returns-then-unsigned_abs-lt2147483648 c =
    let l : nat_abs c.args.z < 2147483648 = simp (c.unsigned_abs.ensures.value, to_z-of_z c.ranges.z) at c.if-unsigned_abs-lt2147483648.true in
    simp (lt-ltb _ _ l) (ap Ok (c.bits_of.ensures ∙ ap (of_z w32) (to_z-of_z c.ranges.z)))

pub returns-else-unsigned_abs-lt2147483648 : goal.returns-else-unsigned_abs-lt2147483648
unfolding ranged
returns-else-unsigned_abs-lt2147483648 c =
    let l : 2147483648 ≤ nat_abs c.args.z = simp (c.unsigned_abs.ensures.value, to_z-of_z c.ranges.z) at c.if-unsigned_abs-lt2147483648.false in
    simp (le-ltb _ _ l) c.failed.ensures
