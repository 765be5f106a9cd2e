use mathlib.Core.Path.{refl}
use native.Mathlib.Omega.{arith}
use Rattle.vcd.specs.Vcd.{var_line}
use lib.ListN.{length}
use Rattle.numerals.proofs.PutLaws.{putting_none, putting_next, putting_all, said}
use Rattle.vcd.proofs.WalkLaws.{text_listed, var_line_at}
use Rattle.vcd.proofs.put_vars.Goals as goal

pub loop-s-init : goal.loop-s-init
loop-s-init c = putting_none _ _ _ _ _

pub put_var-end-requires : goal.put_var-end-requires
put_var-end-requires c = let inv = c.loop-s.invariant in record { n_bound = omega (arith, inv.few, c.requires.types_len); var_most_bound = omega (arith, inv.few, inv.short, c.requires.types_len, c.requires.at_bound) }

pub loop-s-preserved : goal.loop-s-preserved
loop-s-preserved c =
    putting_next c.loop-s.invariant c.loop-s-test.true c.put_var-end.auto.out c.put_var-end.ensures.upper_bound
    (said (var_line_at c.args.types.now (length c.args.types.now) _ refl c.loop-s-test.true) c.put_var-end.ensures.puts)

pub returns : goal.returns
returns c =
    let all = putting_all c.loop-s.invariant c.loop-s-test.false in
    record { upper_bound = all.0; puts = said (text_listed (var_line c.args.types.now) (length c.args.types.now)) all.1 }
