-- The picks of process 0, the only one, by the kernel's rules (`rules`), until it waits or stops.
use Rattle.std.specs.Prelude.{[], ◌∷◌}
use Rattle.base.specs.Cases.{◌∣◌, ◌⇒◌, ◌is◌⇒◌}
use Rattle.blocks.specs.Records.{Model}
use Rattle.rules.specs.Configuration.{ProcessState, Configuration, process_in, ready, waiting}
use Rattle.rules.specs.Statements.{stepped}
use Rattle.rules.specs.Steps.{wakes}
use Rattle.meaning.specs.Machine.{Move, goes, waits, faults, Machine}
use Rattle.body_meaning.specs.Statements.{State}

-- the configuration of one process and a state, and what of a configuration is the state
abbrev pub configuration : State → ProcessState → Configuration
configuration s q =
    record {
      time = s.time;
      deltas = s.deltas;
      signals = s.signals;
      earlier = s.earlier;
      drivers = s.drivers;
      processes = q ∷ [];
      variables = s.variables;
    }

abbrev pub state_of : Configuration → State
state_of c =
    record {
      time = c.time;
      deltas = c.deltas;
      signals = c.signals;
      earlier = c.earlier;
      drivers = c.drivers;
      variables = c.variables;
    }

-- what a pick came to: process q goes on if it is ready, and else waits or has stopped
abbrev pub seen_of : ProcessState → State → Move State ProcessState ProcessState
seen_of q s = q.standing is ready ⇒ goes q s ∣ q.standing is waiting ⇒ waits q s ∣ faults q s

abbrev pub seen : Configuration → Move State ProcessState ProcessState
seen c = seen_of (process_in c.processes 0) (state_of c)

-- The process is picked, and past a wait it stands as the delta step leaves a process that it wakes: "becomes ready, past its wait".
abbrev pub picks : Model → Machine State ProcessState
picks M = record { Control = ProcessState; move = λ q s. seen (stepped M 0 (configuration s q)); past = λ q w. wakes M 0 w }
