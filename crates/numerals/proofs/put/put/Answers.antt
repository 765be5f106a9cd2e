-- Where the text fits it is copied over its part. Assumes nothing.
use mathlib.Core.Path.{refl}
use Prim.Native.Nat.{◌+◌}
use lib.ListN.{length}
use Rattle.numerals.proofs.PutLaws.{held, counted}
use Rattle.numerals.proofs.put.put.Goals as goal

pub returns-then-end-out : goal.returns-then-end-out
returns-then-end-out c =
    let text = c.args.text.now in
    let old = c.args.out.now in
    let at = c.args.at in
    let fits = c.if-end-out.true in
    held text old _ at (at + length text) refl fits c.copy_from_slice.ensures.after

pub returns-else-end-out : goal.returns-else-end-out
returns-else-end-out c = counted _ _ _ _ refl c.if-end-out.false
