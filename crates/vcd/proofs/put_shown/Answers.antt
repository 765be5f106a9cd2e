use mathlib.Core.Path.{refl}
use lib.ListN.{length}
use native.Mathlib.Omega.{arith}
use Rattle.numerals.proofs.PutLaws.{putting_none, putting_next, putting_all, said}
use Rattle.vcd.proofs.WalkLaws.{shown_put, hidden_put, all_shown}
use Rattle.vcd.proofs.put_shown.Goals as goal
use Rattle.vcd.proofs.put_shown.Goals.{then-all-differ, else-all-differ}

pub loop-s-init : goal.loop-s-init
loop-s-init c = putting_none _ _ _ _ _

pub put_value-end-requires : goal.put_value-end-requires
put_value-end-requires c = let inv = c.loop-s.invariant in record { n_bound = omega (arith, inv.few, c.requires.types_len); value_most_bound = omega (arith, inv.few, inv.short, c.requires.types_len) }

pub loop-s-preserved : goal.loop-s-preserved
loop-s-preserved c =
    let tell = c.differ.ensures in
    elim c.if-all-differ.branch [
      | then-all-differ w ↦ rw (w.out-is, w.end-is)
          (putting_next c.loop-s.invariant c.loop-s-test.true w.put_value-end.auto.out w.put_value-end.ensures.upper_bound
          (shown_put c.args.all c.args.types.now (length c.args.types.now) c.args.before.now c.args.row.now refl _ c.loop-s-test.true tell w.if-all-differ.true w.put_value-end.ensures.puts))
      | else-all-differ w ↦ rw (w.out-is, w.end-is)
          (putting_next c.loop-s.invariant c.loop-s-test.true refl (omega arith)
          (hidden_put c.args.all c.args.types.now (length c.args.types.now) c.args.before.now c.args.row.now refl _ c.loop-s-test.true tell w.if-all-differ.false _ _))
    ]

pub returns : goal.returns
returns c =
    let all = putting_all c.loop-s.invariant c.loop-s-test.false in
    record { upper_bound = all.0; puts = said (all_shown c.args.all c.args.types.now (length c.args.types.now) c.args.before.now c.args.row.now refl) all.1 }
