-- The meaning of a body's statements: source document 000, rules 8 and 9 and the wait, with the faults of documents 01 and 02. The rules 10 to 15
-- are those of `meaning`. Of the model M they read the given records alone: signals, variables and drivers.
use Rattle.std.specs.Prelude.{List, ℕ, ◌+◌, eqb, pos, nat_abs, set, Ok, Err}
use Rattle.std.proofs.Math.Option.{Option, none, some}
use Rattle.std.specs.Int.Signed.{lt_z}
use Rattle.base.specs.Cases.{◌∣◌, ◌⇒◌}
use Rattle.blocks.specs.Records.{Model}
use Rattle.model.specs.Owners.{driver_for}
use Rattle.rules.specs.declared.driven.Driven.TheVariants.{To}
use Rattle.rules.specs.declared.value.Failure.{Failure}
use Rattle.rules.specs.Values.{Value}
use Rattle.rules.specs.Configuration.{Transaction, DriverState, ProcessState, driver_in, ready, waiting, stopped}
use Rattle.rules.specs.Evaluation.{Environment, environment_of, failure, no_node, int}
use Rattle.rules.specs.Statements.{added, overflows, with_pending}
use Rattle.grammar.specs.Grammar.{Expression, Statement as Tree, null as null-tree, assign, drive, wait as wait-tree, ◌then◌ as ◌before◌, while as while-tree, choice as choice-tree}
use Rattle.grammar.specs.Made.{nodes_in, nodes_in_part, nodes_in_body, statements_in}
use Rattle.meaning.specs.Machine.{Machine}
use Rattle.meaning.specs.Text.{Statement, null, simple, ◌then◌, while, choice, Effect, next, wait, Verdict, holds, fails, text}
use Rattle.body_meaning.specs.Values.{value_in}

-- what a configuration holds besides its process
pub record State : Type 0 where
  pub time : ℕ
  pub deltas : ℕ
  pub signals : List (List ℕ)
  pub earlier : List ℕ
  pub drivers : List DriverState
  pub variables : List ℕ

-- How the process stands, by the number of its statement: ready, waiting with a deadline, or stopped with a fault and its node. A wait or a
-- fault is told by that, so that two equal waits are told apart.
abbrev pub ready_at : ℕ → ProcessState
ready_at i = record { place = i; standing = ready; deadline = none; fault = 0; node = 0 }

abbrev pub waiting_at : ℕ → Option ℕ → ProcessState
waiting_at i deadline = record { place = i; standing = waiting; deadline = deadline; fault = 0; node = 0 }

abbrev pub stopped_at : ℕ → Failure → ProcessState
stopped_at i f = record { place = i; standing = stopped; deadline = none; fault = f.fault; node = f.node }

-- a simple statement and a condition, each with the number i of its statement and the number m of the nodes before its own. What a wait has
-- between `wait` and `for` is read when it is passed, in the delta step.
pub data Simple : Type 0 where
  variable_assignment_lem : (i m v : ℕ) → Expression → Simple
  signal_assignment_lem : (i m s : ℕ) → Expression → Expression → Simple
  wait_statement : (i m : ℕ) → Option (List ℕ) → Option Expression → Option Expression → Simple

pub data Condition : Type 0 where
  condition : (i m : ℕ) → Expression → Condition

-- the statements of a tree before which m nodes and i statements stand. `if` and `while` have the number of their `unless`.
unfoldable pub numbered : ℕ → ℕ → Tree → Statement Simple Condition
numbered m i null-tree = null
numbered m i (assign v e) = simple (variable_assignment_lem i m v e)
numbered m i (drive s e f) = simple (signal_assignment_lem i m s e f)
numbered m i (wait-tree o u f) = simple (wait_statement i m o u f)
numbered m i (p before q) = numbered m i p then numbered (m + nodes_in_body p) (i + statements_in p) q
numbered m i (while-tree e p) = while (condition i m e) (numbered (m + nodes_in e) (i + 1) p)
numbered m i (choice-tree e p q) =
    choice (condition i m e) (numbered (m + nodes_in e) (i + 1) p) (numbered (m + nodes_in e + nodes_in_body p) (i + statements_in p + 2) q)

abbrev pub environment : State → Environment
environment s = environment_of s.variables s.signals s.earlier

-- what follows a value in statement i, or the fault that it is
abbrev pub given : ℕ → Value → (ℕ → Effect State ProcessState) → Effect State ProcessState
given i (Err f) go = Effect.fault (stopped_at i f)
given i (Ok x) go = go x

-- what follows a delay; fault 2: "c negative", which no node has
unfoldable pub given_delay : ℕ → Value → (ℕ → Effect State ProcessState) → Effect State ProcessState
given_delay i v go = given i v (λ x. lt_z (int x) (pos 0) ⇒ Effect.fault (stopped_at i (failure no_node 2)) ∣ go (nat_abs (int x)))

abbrev pub with_variable : State → ℕ → ℕ → State
with_variable s v x =
    record {
      time = s.time;
      deltas = s.deltas;
      signals = s.signals;
      earlier = s.earlier;
      drivers = s.drivers;
      variables = set s.variables v x;
    }

-- driver k with another waveform
abbrev pub with_waveform : State → ℕ → List Transaction → State
with_waveform s k w =
    record {
      time = s.time;
      deltas = s.deltas;
      signals = s.signals;
      earlier = s.earlier;
      drivers = set s.drivers k (with_pending (driver_in s.drivers k) w);
      variables = s.variables;
    }

-- driver k gets the waveform w, unless it has "a ninth transaction", fault 3
unfoldable pub update : ℕ → State → ℕ → List Transaction → Effect State ProcessState
update i s k w = overflows w ⇒ Effect.fault (stopped_at i (failure no_node 3)) ∣ next (with_waveform s k w)

-- the transaction of the value x at the time t, in driver k
abbrev pub transaction : ℕ → State → ℕ → ℕ → ℕ → Effect State ProcessState
transaction i s k t x = update i s k (added (driver_in s.drivers k).pending t (To x))

-- the part `for` of a wait, worked out once: "sets the deadline time + c (none if absent) and waits"
abbrev pub wait_for : Model → ℕ → ℕ → Option Expression → State → Effect State ProcessState
wait_for M i m none s = wait (waiting_at i none)
wait_for M i m (some f) s = given_delay i (value_in M (environment s) m f) (λ c. wait (waiting_at i (some (s.time + c))))

-- what a simple statement does: (8), (9), and the wait
unfoldable pub effect : Model → Simple → State → Effect State ProcessState
effect M (variable_assignment_lem i m v e) s = given i (value_in M (environment s) m e) (λ x. next (with_variable s v x))
effect M (signal_assignment_lem i m n e f) s =
    given i (value_in M (environment s) m e)
    (λ x. given_delay i (value_in M (environment s) (m + nodes_in e) f) (λ c. transaction i s (driver_for M 0 n) (s.time + c) x))
effect M (wait_statement i m o u f) s = wait_for M i (m + nodes_in_part u) f s

-- a boolean is 1 or 0; or the fault
abbrev pub verdict : ℕ → Value → Verdict ProcessState
verdict i (Err f) = Verdict.fault (stopped_at i f)
verdict i (Ok x) = eqb x 0 ⇒ fails ∣ holds

unfoldable pub test : Model → Condition → State → Verdict ProcessState
test M (condition i m e) s = verdict i (value_in M (environment s) m e)

-- the process whose body is the tree
abbrev pub text_of : Model → Tree → Machine State ProcessState
text_of M body = text (effect M) (test M) (numbered 0 0 body)
