-- What the arrays hold before the dump is written: the types, and the rows of the run. Assumes nothing.
use mathlib.Core.Path.{◌≡◌, ap, ◌∙◌}
use mathlib.Core.List.{List}
use Prim.Native.Nat.{ℕ, ◌+◌, ◌*◌, ◌≤◌}
use native.Mathlib.Nat.{zero-add}
use native.Mathlib.Omega.{arith}
use lib.ListN.{length, take}
use Rattle.blocks.specs.Records.{model_of}
use Rattle.cycle.specs.Arrays.{EntriesAre}
use Rattle.expressions.proofs.Runs.{runs}
use Rattle.model.specs.Index.{LoadedOf}
use Rattle.model.specs.declared.load.Loaded.{Loaded}
use Rattle.numerals.specs.Puts.{Puts}
use Rattle.rules.specs.Configuration.{Configuration, first}
use Rattle.session.specs.Lists.{orders_of}
use Rattle.vcd.specs.Vcd.{dump_text}
use Rattle.vcd.specs.Writing.{header_most, row_most, rows_of}
use Rattle.dumps.specs.Dumps.{dump_of, RoomHolds}
use Rattle.dumps.specs.Run.{settled_in, run_of, signal_type, Traced}
use Rattle.dumps.proofs.DumpLaws.{take_few, array_text, room_holds}

module _ {model : List ℕ} {l : Loaded} (loaded : LoadedOf model l) where
  few_signals : l.totals.signals ≤ 32
  few_signals = omega (arith, loaded.totals.signals, (runs loaded.usable).facts.totals.signals)

  pub signals_fit : (types : List ℕ) → length types ≡ 32 → l.totals.signals ≤ length types
  signals_fit types e = omega (arith, few_signals)

-- the fronts of the arrays are short enough to be written, and what they hold is the dump
pub record Kept (model orders types times values : List ℕ) (n count : ℕ) : Type 0 where
  pub types_len : length (take n types) ≤ 32
  pub times_len : length (take count times) ≤ 65536
  pub values_len : 32 * length (take count times) ≤ length values
  pub rows_few : length (take count times) ≤ 2049
  pub text : dump_text (take n types) (rows_of (length (take n types)) (take count times) values (length (take count times))) ≡ dump_of model orders

pub kept : {model orders types times values : List ℕ} {l : Loaded} {v : Configuration} {count : ℕ} → LoadedOf model l
    → length types ≡ 32 → length times ≡ 2049 → length values ≡ 65568 → EntriesAre (signal_type (model_of model)) l.totals.signals types
    → v ≡ first (model_of model) → Traced (model_of model) (settled_in (model_of model) (orders_of orders) v) times values count
    → Kept model orders types times values l.totals.signals count
unfolding run_of
kept {model} {orders} {types} {times} {values} {l} {v} {count} loaded e f g are is t =
    let traced : Traced (model_of model) (run_of model orders) times values count = rw is at t in
    let few = t.few in
    let short = few_signals loaded in
    record {
      types_len = omega (arith, take_few l.totals.signals types);
      times_len = omega (arith, take_few count times);
      values_len = omega (arith, take_few count times);
      rows_few = omega (arith, take_few count times);
      text = array_text model orders l.totals.signals types times values count loaded.totals.signals are (omega arith) (omega arith) traced;
    }

module _ {model orders types times values : List ℕ} {n count : ℕ} (k : Kept model orders types times values n count) {old new : List ℕ} {r : ℕ}
    (p : Puts (dump_text (take n types) (rows_of (length (take n types)) (take count times) values (length (take count times)))) old new 0 r) where
  -- the dump is counted
  pub long : r ≡ length (dump_of model orders)
  long = p.place ∙ zero-add _ ∙ ap length k.text

  pub holds : r ≤ header_most + length (take count times) * row_most → RoomHolds model orders
  holds most = room_holds model orders long most k.rows_few
