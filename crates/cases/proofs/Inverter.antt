-- The inverter by computation: its bytes are read, no rule refuses its session, and its orders give the lines that are printed.
-- Assumes nothing.
use mathlib.Core.Path.{◌≡◌, refl, sym, ◌∙◌, ap}
use mathlib.Core.Bool.{true}
use mathlib.Core.List.{flat_map, flatten}
use Prim.Native.Nat.{ℕ}
use borrow.Author.Tests.{eq-eqb}
use lib.Dec.{eqb}
use lib.ListN.{replicate}
use Rattle.base.specs.Below.{all_below, sum_below, every}
use Rattle.blocks.specs.Blocks.{length_ok, block_sum, sum_ok, trailing_at, trailing_ok}
use Rattle.blocks.specs.Records.{model_of}
use Rattle.model.specs.Rules.{refusal_of, Accepted}
use Rattle.rules.specs.Configuration.{first}
use Rattle.session.specs.Lists.{orders_of, played}
use Rattle.session.specs.Sessions.{orders_ok, buffer_ok, number_of, Session, accepted, session_of}
use Rattle.session.proofs.SessionLaws.{model_accepted, neither}
use Rattle.numerals.specs.Numerals.{places_in, numeral, decimal_of}
use Rattle.text.specs.Text.{signed_of, line_of, answers_in, session_text, text_of}
use Rattle.cases.specs.Inverter.{inverter, signal_block, process_block, driver_block, node_block, statement_block, inverter_blocks, inverter_bytes, inverter_orders, inverter_order_bytes, printed, inverter_lines, InverterPlayed}
use Rattle.cases.proofs.Rules.{the_orders, the_checks, the_reading}
use Rattle.cases.proofs.Blocks.{accepted_bytes}

-- named on an `unfolding` line, it opens the inverter's bytes
the_bytes : ℕ
unfolding flatten inverter_bytes inverter_blocks signal_block process_block driver_block node_block statement_block
the_bytes = 0

pub model_read : model_of inverter_bytes ≡ inverter
unfolding the_reading the_bytes inverter
model_read = refl

pub orders_read : orders_of inverter_order_bytes ≡ inverter_orders
unfolding the_orders inverter_orders
orders_read = refl

rules_hold : Accepted inverter
unfolding the_checks inverter
rules_hold = record { totals = refl; fields = refl; trees = refl; types = refl; owners = refl; nulls = refl; symmetric = refl; associative = refl }

-- no rule of the model applies
pub accepted_inverter : refusal_of inverter_bytes ≡ 0
unfolding the_bytes length_ok every all_below sum_below block_sum sum_ok trailing_at trailing_ok
accepted_inverter = accepted_bytes inverter_blocks inverter refl refl refl refl model_read rules_hold

-- nor 9 and 10
number_is : number_of inverter_bytes inverter_order_bytes (replicate 128 0) ≡ 0
unfolding orders_ok buffer_ok
number_is =
    model_accepted inverter_bytes inverter_order_bytes (replicate 128 0) accepted_inverter
    ∙ sym (neither inverter_order_bytes (replicate 128 0) refl refl)

session_is : session_of inverter_bytes inverter_order_bytes (replicate 128 0) ≡ accepted (played inverter inverter_orders (first inverter))
unfolding session_of
session_is =
    let k : eqb (number_of inverter_bytes inverter_order_bytes (replicate 128 0)) 0 ≡ true = eq-eqb _ _ number_is in
    rw (k, model_read, orders_read)

-- the answers as text
text_is : session_text inverter_orders (accepted (played inverter inverter_orders (first inverter))) ≡ printed inverter_lines
unfolding the_orders inverter inverter_orders session_text answers_in line_of decimal_of numeral places_in signed_of flat_map printed inverter_lines
text_is = refl

pub as_printed : InverterPlayed
unfolding text_of
as_printed =
    record {
      model_read = model_read;
      orders_read = orders_read;
      accepted = accepted_inverter;
      number = ap (λ (s : Session). s.number) session_is;
      prints = ap (λ (s : Session). session_text (orders_of inverter_order_bytes) s) session_is ∙ rw orders_read text_is;
    }
