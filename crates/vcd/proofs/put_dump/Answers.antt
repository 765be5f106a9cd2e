-- The header and the rows, one behind the other; the theorem of reading back is carried here. Assumes nothing.
use lib.ListN.{length}
use native.Mathlib.Omega.{arith}
use Rattle.base.proofs.Below.{list_length}
use Rattle.vcd.specs.Writing.{row_of, rows_of}
use Rattle.numerals.proofs.PutLaws.{behind, said}
use Rattle.vcd.proofs.ReadBack.{dumps_read_back}
use Rattle.vcd.proofs.WalkLaws.{dump_text_lem}
use Rattle.vcd.proofs.put_dump.Goals as goal

pub returns : goal.returns
returns c =
    let n = length c.args.types.now in
    let row = row_of n c.args.times.now c.args.values.now in
    let count = length c.args.times.now in record {
      upper_bound = omega (arith, c.put_header-a.ensures.upper_bound, c.put_rows.ensures.upper_bound);
      puts = said (dump_text_lem c.args.types.now (rows_of n c.args.times.now c.args.values.now count) count (list_length row count))
          (behind c.put_header-a.ensures.puts c.put_header-a.auto.out c.put_rows.ensures.puts);
      dumps_read_back = dumps_read_back;
    }
