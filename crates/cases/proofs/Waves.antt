-- The inverter's dump by computation, and the theorem of reading back used on it. Assumes nothing.
use mathlib.Core.Path.{◌≡◌, refl}
use mathlib.Core.List.{[], ◌∷◌, map, flat_map}
use Prim.Native.Nat.{◌<◌}
use native.Mathlib.Omega.{arith}
use lib.ListN.{length, get_or}
use Rattle.base.specs.Below.{list_below, join_below, any_below}
use Rattle.base.specs.Course.{first_with}
use Rattle.blocks.specs.Records.{model_of, signal_at}
use Rattle.rules.specs.Configuration.{first, current_of, empty}
use Rattle.numerals.specs.Numerals.{places_in, numeral, decimal_of}
use Rattle.values.specs.Nine.{‘0’, ‘1’}
use Rattle.vcd.specs.Lines.{word_of, text_of}
use Rattle.vcd.specs.ReadBack.{mapped_of}
use Rattle.vcd.specs.Reader.{words_in, number_in, size_in, changes_in, next, read_all, extended, value_at}
use Rattle.vcd.specs.Vcd.{character_of, written_of, value_line, time_line, shown_lines, differs, later_lines, row_lines, declared, header_lines, dump_lines, dump_text}
use Rattle.dumps.specs.Dumps.{dump_of}
use Rattle.dumps.specs.Run.{settled_in, run_of, row_at}
use Rattle.dumps.proofs.DumpLaws.{reads_back}
use Rattle.cases.specs.Inverter.{inverter, inverter_bytes, inverter_orders, inverter_order_bytes, printed}
use Rattle.cases.specs.Waves.{inverter_dump, row, InverterDumped}
use Rattle.cases.proofs.Inverter.{model_read, orders_read, accepted_inverter}
use Rattle.cases.proofs.Rules.{the_orders}

-- the run, of the model and orders that the bytes hold
run_read : run_of inverter_bytes inverter_order_bytes ≡ settled_in inverter inverter_orders (first inverter)
unfolding run_of
run_read = rw (model_read, orders_read)

rows_are : map (row_at inverter) (settled_in inverter inverter_orders (first inverter)) ≡ row 0 ‘0’ ‘1’ ∷ row 1 ‘1’ ‘0’ ∷ []
unfolding the_orders inverter inverter_orders settled_in row_at
rows_are = refl

-- its text
text_is : dump_text (1 ∷ 1 ∷ []) (row 0 ‘0’ ‘1’ ∷ row 1 ‘1’ ‘0’ ∷ []) ≡ printed inverter_dump
unfolding list_below join_below any_below first_with places_in numeral decimal_of text_of character_of written_of value_line time_line shown_lines differs later_lines row_lines declared header_lines dump_lines dump_text flat_map printed inverter_dump
text_is = refl

types_are : map (λ s. s.ty) inverter.signals ≡ 1 ∷ 1 ∷ []
unfolding inverter
types_are = refl

dump_is : dump_of inverter_bytes inverter_order_bytes ≡ printed inverter_dump
unfolding dump_of
dump_is = rw (run_read, model_read, rows_are, types_are) text_is

-- o at time 1, read from the lines
read_is : value_at (printed inverter_dump) (word_of "\"") 1 ≡ word_of "0"
unfolding list_below flat_map printed inverter_dump words_in number_in size_in changes_in next read_all extended value_at
read_is = refl

-- and by the theorem: what it asks for, of the second row
second : (get_or (settled_in inverter inverter_orders (first inverter)) 1 empty).time ≡ 1
unfolding the_orders inverter inverter_orders settled_in
second = refl

two_rows : length (settled_in inverter inverter_orders (first inverter)) ≡ 2
unfolding the_orders inverter inverter_orders settled_in
two_rows = refl

two_signals : length inverter.signals ≡ 2
unfolding inverter
two_signals = refl

mapped_is : mapped_of (signal_at inverter 1).ty (current_of (get_or (settled_in inverter inverter_orders (first inverter)) 1 empty).signals 1) ≡ word_of "0"
unfolding the_orders inverter inverter_orders settled_in mapped_of character_of
mapped_is = refl

read_back : value_at (dump_of inverter_bytes inverter_order_bytes) (word_of "\"") 1 ≡ word_of "0"
read_back =
    let there : 1 < length (run_of inverter_bytes inverter_order_bytes) = rw run_read (omega (arith, two_rows)) in
    let known : 1 < length (model_of inverter_bytes).signals = rw model_read (omega (arith, two_signals)) in
    rw (run_read, model_read, second, mapped_is) at (reads_back inverter_bytes inverter_order_bytes accepted_inverter 1 1 there known)

pub as_dumped : InverterDumped
as_dumped =
    record {
      settled = rw run_read rows_are;
      dump = dump_is;
      read = read_is;
      back = read_back;
    }
