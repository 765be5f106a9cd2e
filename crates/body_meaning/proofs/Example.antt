-- `wait; wait;` by the text's meaning: two equal waits are told apart, and the body repeats. Assumes nothing.
use mathlib.Core.Path.{refl}
use mathlib.Core.Option.{none}
use Rattle.blocks.specs.Records.{Model}
use Rattle.grammar.specs.Grammar.{Statement, wait, ◌then◌}
use Rattle.grammar.specs.Made.{nodes_in_body, statements_in}
use Rattle.meaning.specs.Machine.{stopped, passed, Shows, later, on}
use Rattle.meaning.specs.Machine.{wait as Waits-there}
use Rattle.meaning.specs.Text.{at_loop, past_wait, step, step_process}
use Rattle.body_meaning.specs.Statements.{State, waiting_at, numbered, effect, text_of}

abbrev twice : Statement
twice = wait none none none then wait none none none

pub two_waits : (M : Model) (s t u : State)
    → Shows (text_of M twice) at_loop s (passed (waiting_at 0 none) s t (passed (waiting_at 1 none) t u (stopped (waiting_at 0 none) u)))
unfolding numbered nodes_in_body statements_in effect step step_process past_wait
two_waits M s t u = (6, later refl (on refl (later refl (on refl (later refl (later refl (Waits-there refl)))))))
