-- The theorem of meaning (document 02, item 12), as a claim that a contract can cite.
use Rattle.std.specs.Prelude.{◌≡◌, true, [], ◌∷◌, ◌↔◌, ◌≤◌, length}
use Rattle.blocks.specs.Records.{Model}
use Rattle.fields.specs.Fields.{absent}
use Rattle.rules.specs.Configuration.{ProcessState, first}
use Rattle.grammar.specs.Grammar.{Statement as Tree}
use Rattle.grammar.specs.Made.{made_nodes, made_statements}
use Rattle.meaning.specs.Machine.{History, Shows}
use Rattle.meaning.specs.Text.{at_loop}
use Rattle.body_meaning.specs.Statements.{State, ready_at, text_of}
use Rattle.body_meaning.specs.Picks.{configuration, state_of, picks}

-- M has the nodes and statements that the body makes, and "the text is process 0, the only one". The other records are any. Of the nodes there
-- are so few that none has the number 65,535, which "means absent".
pub record Makes (body : Tree) (M : Model) : Type 0 where
  pub nodes : M.nodes ≡ made_nodes body
  pub statements : M.statements ≡ made_statements body
  pub processes : M.processes ≡ record { first = 0; count = length M.statements; zeros = true } ∷ []
  pub few : length M.nodes ≤ absent

-- "From the start, and past each wait with signals and time alike, the text's meaning reaches a wait or a fault exactly when the made records
-- do, the same one with the same variables and drivers." A history tells the waits and faults reached, each by its statement's number, with
-- the deadline or the fault and its node, and with the state: variables and drivers, and the signals and time that no statement changes. Past
-- a wait it tells the state in which the process goes on, which is any and the same for both.
-- A fault in a wait's `until` is none of these: it arises in the delta step, where a wait is passed or not, outside rules 8 to 15.
pub record SameMeaning (M : Model) (body : Tree) : Type 0 where
  -- the model's first configuration is the start in a state
  pub start : first M ≡ configuration (state_of (first M)) (ready_at 0)
  -- the body repeats, as a process does
  pub same : (s : State) (h : History State ProcessState) → Shows (text_of M body) at_loop s h ↔ Shows (picks M) (ready_at 0) s h
