-- The time is set, and the values over their part. Assumes nothing.
use mathlib.Core.Path.{◌∙◌}
use Prim.Native.Nat.{◌+◌, ◌*◌, ◌≤◌}
use native.Mathlib.Omega.{arith}
use lib.ListN.{length}
use Rattle.dumps.proofs.TraceLaws.{part_long, row_put}
use Rattle.dumps.proofs.put_row.Goals as goal

pub returns : goal.returns
returns c =
    let room : 32 * c.args.k + 32 ≤ length c.args.values.now = omega (arith, c.requires.k_bound, c.requires.values_len) in
    row_put c.args.values.now c.put_values.new.row c.args.k room (c.put_values.auto.row ∙ part_long _ _ room) c.args.times.now c.args.signals.now c.args.n c.args.time
    (omega (arith, c.requires.k_bound, c.requires.times_len)) c.requires.n_bound c.put_values.ensures
