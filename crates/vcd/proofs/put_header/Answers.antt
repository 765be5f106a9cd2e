-- What opens the header, the signals' lines and what closes it, one behind the other. Assumes nothing.
use mathlib.Core.Path.{refl, ◌∙◌}
use lib.ListN.{length}
use native.Mathlib.Omega.{arith}
use Rattle.vcd.specs.Lines.{text_of}
use Rattle.vcd.specs.Vcd.{opening, closing}
use Rattle.numerals.specs.Puts.{Puts}
use Rattle.numerals.proofs.PutLaws.{behind, said}
use Rattle.vcd.proofs.WalkLaws.{header_text}
use Rattle.vcd.proofs.put_header.Goals as goal

-- what opens the header and what closes it
opened-text : (c : goal.After-slice_known-4-1) → Puts (text_of opening) c.args.out.now c.put-a.new.out 0 c.put-a.result
unfolding text_of
opened-text c = c.put-a.ensures

closed-text : (c : goal.After-slice_known-4-1) → Puts (text_of closing) c.put_vars-b.new.out c.put.new.out c.put_vars-b.result c.put.result
unfolding text_of
closed-text c = c.put.ensures

pub returns : goal.returns
returns c =
    let p = c.put-a.ensures in
    let r = c.put.ensures in
    let k = c.put-a.auto.out in record { upper_bound = omega (arith, p.place, c.put_vars-b.ensures.upper_bound, r.place, c.requires); puts = said (header_text c.args.types.now (length c.args.types.now) refl) (behind (behind (opened-text c) k c.put_vars-b.ensures.puts) (c.put_vars-b.auto.out ∙ k) (closed-text c)) }
