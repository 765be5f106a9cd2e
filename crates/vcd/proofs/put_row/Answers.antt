-- The time's line and those of the signals that are shown, or nothing. Assumes nothing.
use mathlib.Core.Path.{refl}
use lib.ListN.{length}
use native.Mathlib.Omega.{arith}
use Rattle.numerals.proofs.PutLaws.{behind, said, put_none}
use Rattle.vcd.proofs.WalkLaws.{row_shown, row_left_out}
use Rattle.vcd.proofs.put_row.Goals as goal

pub returns-then-first-any_differ : goal.returns-then-first-any_differ
returns-then-first-any_differ c =
    record {
      upper_bound = omega (arith, c.put_time-b.ensures.upper_bound, c.put_shown.ensures.upper_bound, c.requires.types_len);
      puts = said (row_shown c.args.types.now (length c.args.types.now) c.args.before.now c.args.row.now c.args.time refl c.args.first c.any_differ.ensures c.if-first-any_differ.true)
          (behind c.put_time-b.ensures.puts c.put_time-b.auto.out c.put_shown.ensures.puts);
    }

pub returns : goal.returns
returns c =
    record {
      upper_bound = omega arith;
      puts = said (row_left_out c.args.types.now (length c.args.types.now) c.args.before.now c.args.row.now c.args.time refl c.args.first c.any_differ.ensures c.if-first-any_differ.false)
          (put_none _ _);
    }
