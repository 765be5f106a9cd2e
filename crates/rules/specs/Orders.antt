-- Pick, settle, pick of a set, delta step, time step and read: what each answers and the configuration it hands back.
use Rattle.std.specs.Prelude.{Bool, not, ◌&&◌, ◌||◌, List, [], ◌∷◌, ◌++◌, ℕ, zero, suc, ◌+◌, ◌*◌, min, eqb, ltb, leb, length}
use Rattle.std.proofs.Math.Option.{Option, none, some}
use Rattle.base.specs.Below.{any_below, sum_below, join_below}
use Rattle.base.specs.Cases.{◌∣◌, ◌⇒◌}
use Rattle.base.specs.Course.{first_with}
use Rattle.sets.specs.Sets.{in_set}
use Rattle.blocks.specs.Records.{Model}
use Rattle.rules.specs.Configuration.{delta_limit, last_time, Transaction, ProcessState, Configuration, driver_in, process_in, current_of, ready, stopped}
use Rattle.rules.specs.Statements.{stepped}
use Rattle.rules.specs.Steps.{transaction_due, deadline_due, delta_step, time_step}

-- an order's answer and the configuration it hands back: the refusal or 0, byte 1, the picks made, bytes 4 to 7 as a number
pub record Outcome : Type 0 where
  pub refusal : ℕ
  pub byte : ℕ
  pub picks : ℕ
  pub value : ℕ
  pub after : Configuration

-- a refused order hands back the configuration that it took
abbrev pub refused : ℕ → Configuration → Outcome
refused n c = record { refusal = n; byte = 0; picks = 0; value = 0; after = c }

-- process p is ready
unfoldable pub is_ready : ℕ → Configuration → Bool
is_ready p c = eqb (process_in c.processes p).standing ready

unfoldable pub is_stopped : ℕ → Configuration → Bool
is_stopped p c = eqb (process_in c.processes p).standing stopped

-- bytes 4 to 7 of a pick's answer: "Byte 4 [..] stays the fault. Byte 5 is zero. Bytes 6-7 become the number of the first node that
-- failed", little endian (`session/specs/FaultLaws`)
abbrev pub fault_and_node : ℕ → ℕ → ℕ
fault_and_node fault node = fault + 65536 * node

-- a done pick: "for a pick the new standing [..] picks made"
abbrev pub pick_done : ℕ → Configuration → Outcome
pick_done p c =
    let q : ProcessState = process_in c.processes p in
    record { refusal = 0; byte = q.standing; picks = 1; value = fault_and_node q.fault q.node; after = c }

-- 12. "Pick: no such process." 13. "Pick: not ready."
unfoldable pub picked : Model → ℕ → Configuration → Outcome
picked M p c =
    leb (length M.processes) p ⇒ refused 12 c
    ∣ not (is_ready p c) ⇒ refused 13 c
    ∣ pick_done p (stepped M p c)

-- the times at which a transaction or a deadline is due: a driver's first transaction is its earliest
abbrev pub times_in : List Transaction → List ℕ
times_in [] = []
times_in (x ∷ w) = x.time ∷ []

abbrev pub optional : Option ℕ → List ℕ
optional none = []
optional (some t) = t ∷ []

unfoldable pub due_times : Model → Configuration → List ℕ
due_times M c =
    join_below (λ k. times_in (driver_in c.drivers k).pending) (length M.drivers)
    ++ join_below (λ p. optional (process_in c.processes p).deadline) (length M.processes)

abbrev pub least : ℕ → List ℕ → ℕ
least t [] = t
least t (u ∷ us) = least (min t u) us

-- the earliest of some times
abbrev pub earliest : List ℕ → Option ℕ
earliest [] = none
earliest (t ∷ ts) = some (least t ts)

-- "If a transaction or deadline is due at this time"
unfoldable pub due_now : Model → Configuration → Bool
due_now M c =
    any_below (λ k. transaction_due c.time (driver_in c.drivers k)) (length M.drivers)
    || any_below (λ p. deadline_due c.time (process_in c.processes p)) (length M.processes)

-- "order 6 does a delta step (byte 1 is 1), order 7 a time step (2)": a done one of the two is an advance
abbrev pub advance_done : ℕ → Configuration → Outcome
advance_done n c = record { refusal = 0; byte = n; picks = 0; value = 0; after = c }

-- 14. "Advance: a process is ready." 15. "Advance: one is stopped." Document 02, item 9: "14 and 15 hold for both", order 6 and order 7
abbrev pub advancing : Model → Configuration → Outcome → Outcome
advancing M c r =
    any_below (λ p. is_ready p c) (length M.processes) ⇒ refused 14 c
    ∣ any_below (λ p. is_stopped p c) (length M.processes) ⇒ refused 15 c
    ∣ r

-- 16. "Something due now after 1,000 delta steps at this time."
abbrev pub delta_order : Model → Configuration → Outcome
delta_order M c = leb delta_limit c.deltas ⇒ refused 16 c ∣ advance_done 1 (delta_step M c)

-- 17. "Nothing is ever due." 18. "The time step would pass 1,000,000,000,000."
abbrev pub time_order : Option ℕ → Configuration → Outcome
time_order none c = refused 17 c
time_order (some t) c = ltb last_time t ⇒ refused 18 c ∣ advance_done 2 (time_step t c)

-- order 6: "22, order 6 with nothing due now, after 15"
unfoldable pub delta_stepped : Model → Configuration → Outcome
delta_stepped M c = advancing M c (not (due_now M c) ⇒ refused 22 c ∣ delta_order M c)

-- order 7: "23, order 7 with something due now, after 15"
unfoldable pub time_stepped : Model → Configuration → Outcome
time_stepped M c = advancing M c (due_now M c ⇒ refused 23 c ∣ time_order (earliest (due_times M c)) c)

-- the lowest ready process, or the number of processes where none is ready
unfoldable pub lowest_ready : Model → Configuration → ℕ
lowest_ready M c = first_with (λ p. is_ready p c) (length M.processes)

pub record Settled : Type 0 where
  pub picks : ℕ
  pub end : Configuration

-- "pick the lowest ready process until none is ready or count picks are made", k having been made
unfoldable pub settled_from : Model → ℕ → ℕ → Configuration → Settled
settled_from M k zero c = record { picks = k; end = c }
settled_from M k (suc n) c =
    ltb (lowest_ready M c) (length M.processes) ⇒ settled_from M (suc k) n (stepped M (lowest_ready M c) c)
    ∣ record { picks = k; end = c }

-- "for settle 0 when none is ready, else 1"
abbrev pub settle_done : Model → Settled → Outcome
settle_done M s =
    record {
      refusal = 0;
      byte = ltb (lowest_ready M s.end) (length M.processes) ⇒ 1 ∣ 0;
      picks = s.picks;
      value = 0;
      after = s.end;
    }

unfoldable pub settled : Model → ℕ → Configuration → Outcome
settled M n c = settle_done M (settled_from M 0 n c)

-- document 02, item 8: "a set of processes in its count field, bit n for process n": the count field has 16 bits
abbrev pub set_bits : ℕ
set_bits = 16

-- some process of the set passes the test
unfoldable pub some_member : (ℕ → Bool) → ℕ → Bool
some_member f set = any_below (λ p. in_set set p && f p) set_bits

-- how many processes of the set are below n
unfoldable pub members_below : ℕ → ℕ → ℕ
members_below set n = sum_below (λ p. in_set set p ⇒ 1 ∣ 0) n

-- "Each runs one statement": those of the set that are below n have, the lowest first. That their arrangement does not matter is a law
-- (`session/specs/SetLaws`).
unfoldable pub stepped_below : Model → ℕ → ℕ → Configuration → Configuration
stepped_below M set zero c = c
stepped_below M set (suc n) c = in_set set n ⇒ stepped M n (stepped_below M set n c) ∣ stepped_below M set n c

-- "Byte 1 is 1 if a process of the set stopped, else 0; bytes 4 to 7 are zero."
abbrev pub set_done : ℕ → Configuration → Outcome
set_done set c =
    record {
      refusal = 0;
      byte = some_member (λ p. is_stopped p c) set ⇒ 1 ∣ 0;
      picks = members_below set set_bits;
      value = 0;
      after = c;
    }

-- "If any is unknown (12) or not ready (13), unknown first, none moves."
unfoldable pub picked_set : Model → ℕ → Configuration → Outcome
picked_set M set c =
    some_member (λ p. leb (length M.processes) p) set ⇒ refused 12 c
    ∣ some_member (λ p. not (is_ready p c)) set ⇒ refused 13 c
    ∣ set_done set (stepped_below M set set_bits c)

-- 19. "Read: no such signal." Else the value read.
unfoldable pub read_of : Model → ℕ → Configuration → Outcome
read_of M s c =
    leb (length M.signals) s ⇒ refused 19 c
    ∣ record { refusal = 0; byte = 0; picks = 0; value = current_of c.signals s; after = c }
