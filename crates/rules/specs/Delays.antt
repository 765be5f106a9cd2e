-- What does not depend on the earlier values (document 02, item 4): "Only models with a delay of 0 answer otherwise".
use Rattle.std.specs.Prelude.{◌≡◌, ◌≢◌, List, [], ℕ, ◌<◌, length, get_or}
use Rattle.blocks.specs.Records.{Model, node_at}
use Rattle.rules.specs.declared.moment.Moment.{Moment}
use Rattle.rules.specs.declared.moment.Moment.TheVariants.{Now, DeltaAgo, UnitsAgo}
use Rattle.rules.specs.Configuration.{Configuration, past_of}
use Rattle.rules.specs.Evaluation.{Environment}

-- no node is "delayed by 0"
abbrev pub NoDelayOfZero : Model → Type 0
NoDelayOfZero M = (n : ℕ) → n < length M.nodes → (node_at M n).kind ≡ 5 → (node_at M n).k ≢ 0

-- how many units ago a moment is by document 01, whose sentence is withdrawn: "A delay of 0 reads the current value"
abbrev pub units_at : Moment → ℕ
units_at Now = 0
units_at DeltaAgo = 0
units_at (UnitsAgo k) = k

-- what expressions read by document 01
abbrev pub former_environment : List ℕ → List (List ℕ) → Environment
former_environment vs ss = record { variable = λ a. get_or vs a 0; signal = λ s w. past_of ss s (units_at w) }

-- a configuration with other earlier values, and without any
abbrev pub with_earlier : List ℕ → Configuration → Configuration
with_earlier es c =
    record {
      time = c.time;
      deltas = c.deltas;
      signals = c.signals;
      earlier = es;
      drivers = c.drivers;
      processes = c.processes;
      variables = c.variables;
    }

abbrev pub without_earlier : Configuration → Configuration
without_earlier c = with_earlier [] c

-- two configurations differ in the earlier values alone
abbrev pub SameButEarlier : Configuration → Configuration → Type 0
SameButEarlier c c' = without_earlier c ≡ without_earlier c'
