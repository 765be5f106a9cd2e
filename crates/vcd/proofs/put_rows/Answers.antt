use mathlib.Core.Path.{refl}
use lib.ListN.{length}
use Rattle.vcd.specs.Vcd.{row_lines}
use Rattle.vcd.specs.Writing.{rows_of}
use Rattle.numerals.proofs.PutLaws.{putting_none, putting_next, putting_all, said}
use Rattle.vcd.proofs.WalkLaws.{text_joined, row_put}
use Rattle.vcd.proofs.put_rows.Goals as goal

pub loop-k-init : goal.loop-k-init
loop-k-init c = putting_none _ _ _ _ _

pub loop-k-preserved : goal.loop-k-preserved
loop-k-preserved c =
    putting_next c.loop-k.invariant c.loop-k-test.true c.put_row-end.auto.out c.put_row-end.ensures.upper_bound
    (row_put c.args.types.now (length c.args.types.now) c.requires.types_len c.args.times.now c.args.values.now (length c.args.times.now) c.loop-k.k c.loop-k-test.true
    refl c.saturating_sub-last.ensures refl c.put_row-end.ensures.puts)

pub returns : goal.returns
returns c =
    let rows = rows_of (length c.args.types.now) c.args.times.now c.args.values.now (length c.args.times.now) in
    let all = putting_all c.loop-k.invariant c.loop-k-test.false in
    record { upper_bound = all.0; puts = said (text_joined (row_lines c.args.types.now rows) (length c.args.times.now)) all.1 }
