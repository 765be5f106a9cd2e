use mathlib.Core.Path.{◌∙◌}
use native.Mathlib.Omega.{arith}
use lib.ListN.{get_or}
use Rattle.numerals.proofs.PutLaws.{putting_none, putting_next, putting_all, behind}
use Rattle.loop_text.proofs.TextLaws.{process_short}
use Rattle.loop_text.proofs.put_processes.Goals as goal

pub loop-process-init : goal.loop-process-init
loop-process-init c = putting_none _ _ _ _ _

pub put_byte-a-requires : goal.put_byte-a-requires
put_byte-a-requires c = let inv = c.loop-process.invariant in omega (arith, inv.few, inv.short, c.requires.chain_len)

pub put_decimal-end-requires : goal.put_decimal-end-requires
put_decimal-end-requires c =
    let inv = c.loop-process.invariant in
    omega (arith, inv.few, inv.short, c.put_byte-a.ensures.place, c.requires.chain_len)

pub loop-process-preserved : goal.loop-process-preserved
loop-process-preserved c =
    let p = c.put_byte-a.ensures in
    let q = c.put_decimal-end.ensures in
    let k = c.put_byte-a.auto.out in
    putting_next c.loop-process.invariant c.loop-process-test.true (c.put_decimal-end.auto.out ∙ k)
    (process_short (get_or c.args.chain.now c.loop-process.process-index 0) _ _ _ p.place q.place) (behind p k q)

pub returns : goal.returns
returns c = let whole = putting_all c.loop-process.invariant c.loop-process-test.false in record { upper_bound = whole.0; puts = whole.1 }
