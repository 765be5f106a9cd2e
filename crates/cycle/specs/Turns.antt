-- What the loop behind pick, settle and pick of a set goes through, and the answer it makes of the struct's arrays.
use Rattle.std.specs.Prelude.{◌≡◌, List, ℕ, ◌<◌, eqb, get_or}
use Rattle.base.specs.Cases.{◌∣◌, ◌⇒◌}
use Rattle.rules.specs.Configuration.{ready}
use Rattle.rules.specs.Orders.{fault_and_node}
use Rattle.due.specs.Due.{some_is}
use Rattle.members.specs.Members.{pick_refusal, set_refusal, stopped_in}
use Rattle.cycle.specs.View.{refused_answer}
use Rattle.cycle.specs.declared.orders.Answer.{Answer}
use Rattle.cycle.specs.declared.picks.Turns.{Turns}
use Rattle.cycle.specs.declared.picks.Picks.{Picks}
use Rattle.cycle.specs.declared.picks.Picks.TheVariants.{One, Settle, Set}

-- the refusal of the picks, or 0
abbrev pub picks_refusal : Picks → List ℕ → ℕ → ℕ
picks_refusal (One p) standings nprocesses = pick_refusal standings nprocesses p
picks_refusal (Settle n) standings nprocesses = 0
picks_refusal (Set set) standings nprocesses = set_refusal standings nprocesses set

-- every process
abbrev pub all : ℕ
all = 65535

-- process p once; each process again and again, n times; or each process of the set once
abbrev pub part_of : Picks → Turns
part_of (One p) = record { first = p; count = 1; set = all; stride = 0 }
part_of (Settle n) = record { first = 0; count = n; set = all; stride = 0 }
part_of (Set set) = record { first = 0; count = 16; set = set; stride = 1 }

-- nothing where the picks are refused
abbrev pub turns_of : Picks → ℕ → Turns
turns_of which refusal = eqb refusal 0 ⇒ part_of which ∣ record { first = 0; count = 0; set = 0; stride = 0 }

-- the faults and nodes of the first n processes are 16 bits each, as an answer tells them
abbrev pub Tellable : List ℕ → List ℕ → ℕ → Type 0
Tellable faults nodes n = (p : ℕ) → p < n → (get_or faults p 0 < 65536) × (get_or nodes p 0 < 65536)

-- a process that is picked alone is there, where the pick is not refused
abbrev pub Named : Picks → ℕ → ℕ → Type 0
Named which refusal nprocesses = (p : ℕ) → which ≡ One p → refusal ≡ 0 → p < nprocesses

-- the answer to a done order, n picks having been made
abbrev pub done_of : Picks → List ℕ → List ℕ → List ℕ → ℕ → ℕ → Answer
done_of (One p) standings faults nodes nprocesses n =
    record { refusal = 0; byte = get_or standings p 0; picks = n; value = fault_and_node (get_or faults p 0) (get_or nodes p 0) }
done_of (Settle k) standings faults nodes nprocesses n =
    record { refusal = 0; byte = some_is standings nprocesses ready ⇒ 1 ∣ 0; picks = n; value = 0 }
done_of (Set set) standings faults nodes nprocesses n =
    record { refusal = 0; byte = stopped_in standings set ⇒ 1 ∣ 0; picks = n; value = 0 }

-- the answer
abbrev pub reply_of : Picks → ℕ → List ℕ → List ℕ → List ℕ → ℕ → ℕ → Answer
reply_of which refusal standings faults nodes nprocesses n =
    eqb refusal 0 ⇒ done_of which standings faults nodes nprocesses n ∣ refused_answer refusal
