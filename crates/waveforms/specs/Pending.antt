-- The pending transactions that a driver's arrays hold.
use Rattle.std.specs.Prelude.{List, [], ◌∷◌, ℕ, ◌+◌, ◌≤◌, ◌<◌, eqb, get_or}
use Rattle.base.specs.Below.{list_below}
use Rattle.base.specs.Cases.{◌∣◌, ◌⇒◌}
use Rattle.rules.specs.declared.driven.Driven.{Driven}
use Rattle.rules.specs.declared.driven.Driven.TheVariants.{To, Null}
use Rattle.rules.specs.Configuration.{Transaction}
use Rattle.waveforms.specs.declared.driver.Driver.{Driver}

-- later than any time: stands for no deadline and no transaction
abbrev pub never : ℕ
never = 18446744073709551615

-- a value or null is held in 32 bits: null as a word that no value has, neither an integer in range nor a code
abbrev pub null_word : ℕ
null_word = 2147483648

unfoldable pub driven_of : ℕ → Driven
driven_of w = eqb w null_word ⇒ Null ∣ To w

-- the word that holds it
abbrev pub word_for : Driven → ℕ
word_for (To v) = v
word_for Null = null_word

-- the pending transactions of a driver at the time t: its times are held as units from t, 32 bits, since a delay has 31
unfoldable pub pending_of : ℕ → Driver → List Transaction
pending_of t d = list_below (λ j. record { time = t + get_or d.times j 0; value = driven_of (get_or d.values j 0) }) d.count

-- what a read past the end of an array of drivers gives
abbrev pub no_driver : Driver
no_driver = record { times = []; values = []; count = 0 }

-- the time of the first transaction
abbrev pub first_time : List Transaction → ℕ
first_time [] = never
first_time (x ∷ w) = x.time

-- none of the first n times is before t
abbrev pub NoneBefore : ℕ → List ℕ → ℕ → Type 0
NoneBefore t times n = (k : ℕ) → k < n → t ≤ get_or times k 0
