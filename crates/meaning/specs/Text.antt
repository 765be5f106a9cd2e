-- The meaning of a text: source document 000, rules 8 to 15.
use Rattle.meaning.specs.Machine.{Move, ends, goes, waits, faults, Machine}

-- "ss ::= x := e | x <= e after e | wait .. | null | ss; ss | while e do ss | if e then ss else ss". A `simple` statement is an assignment
-- of either kind or a wait. What it says is left open, and so is what a condition says. A list a b c is a; (b; c).
pub data Statement (Simple Condition : Type 0) : Type 0 where
  null : Statement Simple Condition
  simple : Simple → Statement Simple Condition
  ◌then◌ : Statement Simple Condition → Statement Simple Condition → Statement Simple Condition
  while : Condition → Statement Simple Condition → Statement Simple Condition
  choice : Condition → Statement Simple Condition → Statement Simple Condition → Statement Simple Condition

infixr 50 ◌then◌
-- what a simple statement does in a state: it goes on in a new one, waits, or is at fault
pub data Effect (State Stop : Type 0) : Type 0 where
  next : State → Effect State Stop
  wait : Stop → Effect State Stop
  fault : Stop → Effect State Stop

-- what a condition is in a state
pub data Verdict (Stop : Type 0) : Type 0 where
  holds : Verdict Stop
  fails : Verdict Stop
  fault : Stop → Verdict Stop

-- A process is "while true do ss": it stands at the loop, or it has a statement to do and then the loop.
pub data Process (Simple Condition : Type 0) : Type 0 where
  at_loop : Process Simple Condition
  doing : Statement Simple Condition → Process Simple Condition

-- what follows a simple statement's effect in state s, or the wait or fault that it is
abbrev pub after_effect : {State Stop C : Type 0} → State → Effect State Stop → (State → Move State Stop C) → Move State Stop C
after_effect s (next t) go = go t
after_effect s (wait w) go = waits w s
after_effect s (fault w) go = faults w s

-- x where the condition holds, y where it fails
abbrev pub by_verdict : {State Stop C : Type 0} → State → Verdict Stop → Move State Stop C → Move State Stop C → Move State Stop C
by_verdict s holds x y = x
by_verdict s fails x y = y
by_verdict s (fault w) x y = faults w s

-- what p; q does where p does this. (10) null; q goes to q. (11) p; q goes to p'; q where p goes to p'.
abbrev pub before : {State Stop Simple Condition : Type 0} → Statement Simple Condition → State → Move State Stop (Statement Simple Condition)
    → Move State Stop (Statement Simple Condition)
before q s ends = goes q s
before q s (goes p t) = goes (p then q) t
before q s (waits w t) = waits w t
before q s (faults w t) = faults w t

-- the same before the loop of the process
abbrev pub before_loop : {State Stop Simple Condition : Type 0} → State → Move State Stop (Statement Simple Condition)
    → Move State Stop (Process Simple Condition)
before_loop s ends = goes at_loop s
before_loop s (goes p t) = goes (doing p) t
before_loop s (waits w t) = waits w t
before_loop s (faults w t) = faults w t

-- "Process resumption involves removing the leading wait statement": null stands in its place, and goes by rule 10.
unfoldable pub past_wait : {Simple Condition : Type 0} → Statement Simple Condition → Statement Simple Condition
past_wait null = null
past_wait (simple a) = null
past_wait (p then q) = past_wait p then q
past_wait (while c p) = while c p
past_wait (choice c p q) = choice c p q

abbrev pub past_process : {Simple Condition : Type 0} → Process Simple Condition → Process Simple Condition
past_process at_loop = at_loop
past_process (doing p) = doing (past_wait p)

module _ {State Stop Simple Condition : Type 0} (effect : Simple → State → Effect State Stop) (test : Condition → State → Verdict Stop) where
  -- One step of a statement. "There is no rule for null alone".
  unfoldable pub step : Statement Simple Condition → State → Move State Stop (Statement Simple Condition)
  step null s = ends
  -- (8), (9)
  step (simple a) s = after_effect s (effect a s) (λ t. goes null t)
  -- (10), (11)
  step (p then q) s = before q s (step p s)
  -- (12), (13)
  step (while c p) s = by_verdict s (test c s) (goes (p then while c p) s) (goes null s)
  -- (14), (15)
  step (choice c p q) s = by_verdict s (test c s) (goes p s) (goes q s)

  -- the process "while true do body"
  unfoldable pub step_process : Statement Simple Condition → Process Simple Condition → State → Move State Stop (Process Simple Condition)
  step_process body at_loop s = goes (doing body) s
  step_process body (doing p) s = before_loop s (step p s)

  abbrev pub text : Statement Simple Condition → Machine State Stop
  text body = record { Control = Process Simple Condition; move = step_process body; past = λ p w. past_process p }
