-- A configuration written out as numbers, for programs that compare configurations: 2374 words, and 0 past them.
use Rattle.std.proofs.Math.Option.{Option, none, some}
use Rattle.std.specs.Prelude.{ℕ, ◌-◌, ◌/◌, ◌%◌, ltb, length, get_or}
use Rattle.base.specs.Cases.{◌∣◌, ◌⇒◌, ◌is◌⇒◌}
use Rattle.rules.specs.declared.driven.Driven.{Driven}
use Rattle.rules.specs.declared.driven.Driven.TheVariants.{To, Null}
use Rattle.rules.specs.Configuration.{Transaction, DriverState, ProcessState, Configuration, driver_in, past_of}

-- what stands for a process and a transaction that are not there
abbrev pub no_process : ProcessState
no_process = record { place = 0; standing = 0; deadline = none; fault = 0; node = 0 }

abbrev pub no_transaction : Transaction
no_transaction = record { time = 0; value = To 0 }

-- a value as it is, and null as 2 to the 32, which is no 32 bits
abbrev pub driven_word : Driven → ℕ
driven_word (To v) = v
driven_word Null = 4294967296

-- whether a deadline is set, and it
abbrev pub is_set : Option ℕ → ℕ
is_set none = 0
is_set (some t) = 1

abbrev pub time_of : Option ℕ → ℕ
time_of none = 0
time_of (some t) = t

-- the time, the count of delta steps, and how many there are of each
unfoldable pub total_word : Configuration → ℕ → ℕ
total_word C j =
    j is 0 ⇒ C.time
    ∣ j is 1 ⇒ C.deltas
    ∣ j is 2 ⇒ length C.signals
    ∣ j is 3 ⇒ length C.variables
    ∣ j is 4 ⇒ length C.drivers
    ∣ length C.processes

-- a driver: its current value or null, how many transactions are pending, the times of the first eight and what they carry
unfoldable pub driver_word : DriverState → ℕ → ℕ
driver_word D j =
    j is 0 ⇒ driven_word D.current
    ∣ j is 1 ⇒ length D.pending
    ∣ ltb j 10 ⇒ (get_or D.pending (j - 2) no_transaction).time
    ∣ driven_word (get_or D.pending (j - 10) no_transaction).value

-- a process: its place, standing, fault and node, whether it has a deadline, and that
unfoldable pub process_word : ProcessState → ℕ → ℕ
process_word P j =
    j is 0 ⇒ P.place
    ∣ j is 1 ⇒ P.standing
    ∣ j is 2 ⇒ P.fault
    ∣ j is 3 ⇒ P.node
    ∣ j is 4 ⇒ is_set P.deadline
    ∣ time_of P.deadline

-- word i: the totals, 32 values of each of 32 signals, 64 variables, 18 words of each of 64 drivers, 6 of each of 16 processes, the
-- earlier value of each signal
unfoldable pub word_of : Configuration → ℕ → ℕ
word_of C i =
    ltb i 6 ⇒ total_word C i
    ∣ ltb i 1030 ⇒ past_of C.signals ((i - 6) / 32) ((i - 6) % 32)
    ∣ ltb i 1094 ⇒ get_or C.variables (i - 1030) 0
    ∣ ltb i 2246 ⇒ driver_word (driver_in C.drivers ((i - 1094) / 18)) ((i - 1094) % 18)
    ∣ ltb i 2342 ⇒ process_word (get_or C.processes ((i - 2246) / 6) no_process) ((i - 2246) % 6)
    ∣ ltb i 2374 ⇒ get_or C.earlier (i - 2342) 0
    ∣ 0
