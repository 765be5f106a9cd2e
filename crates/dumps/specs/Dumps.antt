-- The dump of a model and orders: its number, its bytes, what reading it back gives, and the room that holds every dump.
use Rattle.std.specs.Prelude.{◌≡◌, List, [], ◌∷◌, ◌++◌, map, ℕ, ◌+◌, ◌*◌, ◌≤◌, ◌<◌, eqb, leb, length, get_or, drop, Result, Ok, Err}
use Rattle.base.specs.Rules.{Rule, ◌needs◌, first_failing}
use Rattle.base.specs.Refusals.{told}
use Rattle.base.specs.declared.refusal.Refusal.{Refusal}
use Rattle.base.specs.Cases.{◌∣◌, ◌⇒◌}
use Rattle.blocks.specs.Records.{model_of, signal_at}
use Rattle.model.specs.Rules.{rules_of, refusal_of}
use Rattle.rules.specs.Configuration.{current_of, empty}
use Rattle.session.specs.Sessions.{orders_ok}
use Rattle.text.specs.Text.{number_line_of}
use Rattle.vcd.specs.ReadBack.{mapped_of, TimesRise}
use Rattle.vcd.specs.Reader.{value_at}
use Rattle.vcd.specs.Vcd.{identifier_of, dump_text}
use Rattle.vcd.specs.Writing.{header_most, row_most}
use Rattle.dumps.specs.Run.{run_of, row_at, types_of}

-- the dump's bytes
unfoldable pub dump_of : List ℕ → List ℕ → List ℕ
dump_of model orders = dump_text (types_of (model_of model)) (map (row_at (model_of model)) (run_of model orders))

-- the session's numbers: the model's own and 9. 10 cannot apply: a dump has no answer buffer.
abbrev pub run_rules : List ℕ → List ℕ → List Rule
run_rules model orders = rules_of model ++ ((9 needs orders_ok orders) ∷ [])

unfoldable pub run_number : List ℕ → List ℕ → ℕ
run_number model orders = first_failing (run_rules model orders)

-- "21, the output buffer cannot hold the whole dump, after all other session numbers"
unfoldable pub dump_number : List ℕ → List ℕ → List ℕ → ℕ
dump_number model orders out = first_failing (run_rules model orders ++ ((21 needs leb (length (dump_of model orders)) (length out)) ∷ []))

pub record Dump : Type 0 where
  pub number : ℕ
  pub length : ℕ
  pub buffer : List ℕ

-- a dump at the front of a buffer, whose rest stays; a refused one writes nothing
abbrev pub written : List ℕ → List ℕ → Dump
written text out = record { number = 0; length = length text; buffer = text ++ drop (length text) out }

abbrev pub unwritten : ℕ → List ℕ → Dump
unwritten n out = record { number = n; length = 0; buffer = out }

-- the dump of a model and orders into a buffer, all three any bytes
unfoldable pub dumped_of : List ℕ → List ℕ → List ℕ → Dump
dumped_of model orders out =
    eqb (dump_number model orders out) 0 ⇒ written (dump_of model orders) out
    ∣ unwritten (dump_number model orders out) out

-- how many bytes a call wrote: none where it is refused
abbrev pub length_of : Result ℕ Refusal → ℕ
length_of (Ok n) = n
length_of (Err refusal) = 0

-- what the function returned, and what the buffer, once `old`, holds then, is the dump
pub record DumpIs (model orders old new : List ℕ) (r : Result ℕ Refusal) : Type 0 where
  pub number : told r ≡ (dumped_of model orders old).number
  pub length : length_of r ≡ (dumped_of model orders old).length
  pub buffer : new ≡ (dumped_of model orders old).buffer

-- "Read back by the standard's rules, it gives every signal's settled value, so mapped, at each time of the run."
abbrev pub ReadsBack : Type 0
ReadsBack = (model orders : List ℕ) → refusal_of model ≡ 0 → (k n : ℕ) → k < length (run_of model orders) → n < length (model_of model).signals
    → value_at (dump_of model orders) (identifier_of n) (get_or (run_of model orders) k empty).time
    ≡ mapped_of (signal_at (model_of model) n).ty (current_of (get_or (run_of model orders) k empty).signals n)

-- the first time of a run is 0, and its times rise
abbrev pub TimesOfRuns : Type 0
TimesOfRuns = (model orders : List ℕ) → refusal_of model ≡ 0
    → ((get_or (run_of model orders) 0 empty).time ≡ 0) × TimesRise (map (row_at (model_of model)) (run_of model orders))

-- the program's room: the header of 32 signals and 2,049 rows, since of 4,096 orders at most 2,048 are time steps
abbrev pub dump_room : ℕ
dump_room = header_most + 2049 * row_most

-- "The program's own buffer holds every dump."
abbrev pub RoomHolds : List ℕ → List ℕ → Type 0
RoomHolds model orders = run_number model orders ≡ 0 → length (dump_of model orders) ≤ dump_room

-- what the program prints: "A refused run prints its number alone."
unfoldable pub print_of : List ℕ → List ℕ → List ℕ
print_of model orders = eqb (run_number model orders) 0 ⇒ dump_of model orders ∣ number_line_of (run_number model orders)
