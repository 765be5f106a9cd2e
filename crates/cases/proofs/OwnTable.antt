-- The line with its own table, by computation, and the theorem of numberings used on it. Assumes nothing.
use mathlib.Core.Path.{◌≡◌, refl}
use mathlib.Core.List.Perm
use mathlib.Core.List.{flatten, reverse_perm}
use Prim.Native.Nat.{ℕ}
use Rattle.base.specs.Below.{all_below, sum_below, list_below, every}
use Rattle.base.specs.Rules.{first_failing}
use Rattle.values.specs.Nine.{‘0’, Z}
use Rattle.values.specs.Bench.{holds, Holds}
use Rattle.blocks.specs.Blocks.{length_ok, block_sum, sum_ok, trailing_at, trailing_ok}
use Rattle.blocks.specs.Records.{model_of}
use Rattle.model.specs.Rules.{record_rules, Accepted, refusal_of}
use Rattle.rules.specs.Numberings.{driving_as, Numbering}
use Rattle.session.proofs.OwnTableLaws.{own_table_laws}
use Rattle.cases.specs.OwnTable.{open_drain, own_line, standard_line, own_rows, line_signals, line_processes, line_drivers, line_nodes, line_statements, line_table, line_blocks, line_bytes, risen, fallen, driving, value_by, OwnTablePlayed, OwnTableUsed}
use Rattle.cases.proofs.Rules.{the_orders, the_checks, the_reading}
use Rattle.cases.proofs.Blocks.{accepted_bytes}

pub own_hold : Holds own_rows
unfolding own_rows open_drain own_line standard_line holds record_rules first_failing the_orders the_checks
own_hold = refl

-- named on an `unfolding` line, it opens the model's bytes
the_bytes : ℕ
unfolding flatten line_bytes line_blocks line_signals line_processes line_drivers line_nodes line_statements line_table
the_bytes = 0

line_read : model_of line_bytes ≡ own_line
unfolding the_reading the_bytes own_line open_drain
line_read = refl

line_accepted : Accepted own_line
unfolding the_checks own_line open_drain
line_accepted = record { totals = refl; fields = refl; trees = refl; types = refl; owners = refl; nulls = refl; symmetric = refl; associative = refl }

accepted_line : refusal_of line_bytes ≡ 0
unfolding the_bytes length_ok every all_below sum_below block_sum sum_ok trailing_at trailing_ok
accepted_line = accepted_bytes line_blocks own_line refl refl refl refl line_read line_accepted

pub own_played : OwnTablePlayed
unfolding own_rows open_drain the_checks
own_played = record { said = refl; eight = refl; read = line_read; accepted = accepted_line }

risen_numbers : Numbering (model_of line_bytes) risen
unfolding own_line list_below
risen_numbers = rw line_read (Perm.refl risen)

fallen_numbers : Numbering (model_of line_bytes) fallen
unfolding own_line list_below
fallen_numbers = rw line_read (reverse_perm risen)

value : value_by (model_of line_bytes) fallen ≡ ‘0’
unfolding the_orders own_line open_drain driving_as
value = rw line_read

pub own_used : OwnTableUsed
unfolding the_orders own_line open_drain driving_as
own_used =
    record {
      laws = own_table_laws;
      accepted = accepted_line;
      rising = refl;
      falling = refl;
      risen_numbers = risen_numbers;
      fallen_numbers = fallen_numbers;
      same = (own_table_laws.numberings line_bytes accepted_line).any driving 0 Z fallen risen fallen_numbers risen_numbers;
      value = value;
    }
