-- Machines that run until they wait or stop with a fault, and what can be seen of a run.
use Rattle.std.specs.Prelude.{◌≡◌, ℕ, suc}

-- What one step does. `Stop` says which wait or which fault it is.
pub data Move (State Stop Control : Type 0) : Type 0 where
  -- nothing is left to do
  ends : Move State Stop Control
  goes : Control → State → Move State Stop Control
  waits : Stop → State → Move State Stop Control
  faults : Stop → State → Move State Stop Control

pub record Machine (State Stop : Type 0) : Type 1 where
  pub Control : Type 0
  pub move : Control → State → Move State Stop Control
  -- past the wait at which it stands
  pub past : Control → Stop → Control

-- What is seen of a run: the first wait or fault and the state there; past a wait, the state in which it went on, and what is seen from there.
-- "past each wait with signals and time alike": the state in which a run goes on is any, and the same for two machines with one history.
pub data History (State Stop : Type 0) : Type 0 where
  stopped : Stop → State → History State Stop
  passed : Stop → State → State → History State Stop → History State Stop

module _ {State Stop : Type 0} (M : Machine State Stop) where
  open M use {Control, move, past}

  -- From a control and a state the machine shows a history, in n steps.
  pub data ShowsIn : ℕ → Control → State → History State Stop → Type 0 where
    later : {n : ℕ} {c d : Control} {s t : State} {h : History State Stop} → move c s ≡ goes d t → ShowsIn n d t h → ShowsIn (suc n) c s h
    wait : {c : Control} {s t : State} {w : Stop} → move c s ≡ waits w t → ShowsIn 0 c s (stopped w t)
    fault : {c : Control} {s t : State} {w : Stop} → move c s ≡ faults w t → ShowsIn 0 c s (stopped w t)
    on : {n : ℕ} {c : Control} {s t u : State} {w : Stop} {h : History State Stop} → move c s ≡ waits w t → ShowsIn n (past c w) u h
        → ShowsIn (suc n) c s (passed w t u h)

  abbrev pub Shows : Control → State → History State Stop → Type 0
  Shows c s h = (n : ℕ) × ShowsIn n c s h
