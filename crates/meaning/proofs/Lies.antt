-- A machine whose controls lie as a text's statements do shows what the text shows. A step of the text is met by one step of the machine, and
-- then by steps of either that only move the control.
-- Assumes nothing.
use mathlib.Core.Path.{◌≡◌, refl, ap}
use mathlib.Core.Logic.{◌↔◌}
use Rattle.meaning.specs.Machine.{Move, ends, goes, waits, faults, Machine, History, Shows}
use Rattle.meaning.specs.Text.{Statement, null, simple, ◌then◌, while, choice, Effect, Verdict, Process, at_loop, doing, after_effect, by_verdict, before, before_loop, past_wait, step, step_process, text}
use Rattle.meaning.proofs.Match.{Steps, stay, step as one, steps_then, Together, Matched, both_go, both_wait, both_fault, shows_before, shows_after, same_shown}

module _ {State Stop Simple Condition : Type 0} (effect : Simple → State → Effect State Stop) (test : Condition → State → Verdict Stop)
    (Y : Machine State Stop) where
  open Y use {Control, move, past}

  -- control i does nothing but go on to j
  abbrev pub Goes : Control → Control → Type 0
  Goes i j = (s : State) → move i s ≡ goes j s

  -- it does what a simple statement does, and then, past a wait too, stands at j
  pub record Does (i : Control) (a : Simple) (j : Control) : Type 0 where
    pub move : (s : State) → Y.move i s ≡ after_effect s (effect a s) (λ t. goes j t)
    pub past : (s : State) (w : Stop) → effect a s ≡ Effect.wait w → Y.past i w ≡ j

  -- it goes on to j where the condition holds, and to k where it fails
  abbrev pub Tests : Control → Condition → Control → Control → Type 0
  Tests i c j k = (s : State) → move i s ≡ by_verdict s (test c s) (goes j s) (goes k s)

  -- The statement p lies at i, and where it ends the control is j.
  pub data Lies : Control → Statement Simple Condition → Control → Type 0 where
    lies_null : {i j : Control} → Goes i j → Lies i null j
    lies_simple : {i j : Control} {a : Simple} → Does i a j → Lies i (simple a) j
    lies_then : {i k j : Control} {p q : Statement Simple Condition} → Lies i p k → Lies k q j → Lies i (p then q) j
    lies_while : {i b k l j : Control} {c : Condition} {p : Statement Simple Condition} → Tests i c b l → Lies b p k → Goes k i → Goes l j
        → Lies i (while c p) j
    lies_choice : {i b k m l j : Control} {c : Condition} {p q : Statement Simple Condition} → Tests i c b m → Lies b p k → Goes k l → Lies m q l
        → Goes l j → Lies i (choice c p q) j

  -- from i to j by controls that only go on
  data Quiet : Control → Control → Type 0 where
    here : {i : Control} → Quiet i i
    on : {i k j : Control} → Goes i k → Quiet k j → Quiet i j

  -- What is left of a statement lies at i, and where it ends the control is j.
  data Runs : Control → Statement Simple Condition → Control → Type 0 where
    fresh : {i j : Control} {p : Statement Simple Condition} → Lies i p j → Runs i p j
    runs_then : {i k j : Control} {p q : Statement Simple Condition} → Runs i p k → Lies k q j → Runs i (p then q) j
    runs_quiet : {i k j : Control} {p : Statement Simple Condition} → Runs i p k → Quiet k j → Runs i p j

  abbrev run : Statement Simple Condition → State → Move State Stop (Statement Simple Condition)
  run = step effect test

  quiet_steps : {i j : Control} → Quiet i j → (s : State) → Steps move i s j s
  quiet_steps here s = stay
  quiet_steps (on e q) s = one (e s) (quiet_steps q s)

  -- In state s, p and the control i come to what is left of p, where it lies, or both to the end j.
  data Joins (j : Control) (p : Statement Simple Condition) (i : Control) (s : State) : Type 0 where
    live : {q : Statement Simple Condition} {k : Control} {t : State} → Steps run p s q t → Steps move i s k t → Runs k q j → Joins j p i s
    over : {t : State} → Steps run p s null t → Steps move i s j t → Joins j p i s

  -- the steps of a statement before another
  steps_before : {p d : Statement Simple Condition} {s t : State} (q : Statement Simple Condition) → Steps run p s d t → Steps run (p then q) s (d then q) t
  unfolding step
  steps_before q stay = stay
  steps_before {s} q (one e r) = one (ap (before q s) e) (steps_before q r)

  joins_then : {i k j : Control} {p q : Statement Simple Condition} {s : State} → Joins k p i s → Lies k q j → Joins j (p then q) i s
  unfolding step
  joins_then {q} (live a b r) l = live (steps_before q a) b (runs_then r l)
  joins_then {q} (over a b) l = live (steps_then (steps_before q a) (one refl stay)) b (fresh l)

  joins_quiet : {i k j : Control} {p : Statement Simple Condition} {s : State} → Joins k p i s → Quiet k j → Joins j p i s
  joins_quiet (live a b r) q = live a b (runs_quiet r q)
  joins_quiet (over {t} a b) q = over a (steps_then b (quiet_steps q t))

  -- what a step of p and a step at i come to
  data Meets (p : Statement Simple Condition) (i j : Control) (s : State) : Move State Stop (Statement Simple Condition) → Move State Stop Control → Type 0 where
    ended : {k : Control} → Steps move k s j s → Meets p i j s ends (goes k s)
    went : {q : Statement Simple Condition} {k : Control} {t : State} → Joins j q k t → Meets p i j s (goes q t) (goes k t)
    waited : {w : Stop} {t : State} → ((u : State) → Joins j (past_wait p) (past i w) u) → Meets p i j s (waits w t) (waits w t)
    failed : {w : Stop} {t : State} → Meets p i j s (faults w t) (faults w t)

  meets_then : {p q : Statement Simple Condition} {i k j : Control} {s : State} {x : Move State Stop (Statement Simple Condition)} {y : Move State Stop Control}
      → Meets p i k s x y → Lies k q j → Meets (p then q) i j s (before q s x) y
  unfolding past_wait
  meets_then (ended g) l = went (live stay g (fresh l))
  meets_then (went g) l = went (joins_then g l)
  meets_then (waited g) l = waited (λ u. joins_then (g u) l)
  meets_then failed l = failed

  meets_quiet : {p : Statement Simple Condition} {i k j : Control} {s : State} {x : Move State Stop (Statement Simple Condition)} {y : Move State Stop Control}
      → Meets p i k s x y → Quiet k j → Meets p i j s x y
  meets_quiet {s} (ended g) q = ended (steps_then g (quiet_steps q s))
  meets_quiet (went g) q = went (joins_quiet g q)
  meets_quiet (waited g) q = waited (λ u. joins_quiet (g u) q)
  meets_quiet failed q = failed

  meets_simple : {i j : Control} {a : Simple} (s : State) (x : Effect State Stop) → ((w : Stop) → x ≡ Effect.wait w → past i w ≡ j)
      → Meets (simple a) i j s (after_effect s x (λ t. goes null t)) (after_effect s x (λ t. goes j t))
  unfolding past_wait
  meets_simple s (Effect.next t) e = went (over stay stay)
  meets_simple s (Effect.wait w) e = waited {w = w} (λ u. rw (e w refl) (over stay stay))
  meets_simple s (Effect.fault w) e = failed

  meets_fresh : {i j : Control} {p : Statement Simple Condition} → Lies i p j → (s : State) → Meets p i j s (run p s) (move i s)
  unfolding step
  meets_fresh (lies_null e) s = rw (e s) (ended stay)
  meets_fresh (lies_simple {a} d) s = rw (d.move s) (meets_simple s (effect a s) (d.past s))
  meets_fresh (lies_then p q) s = meets_then (meets_fresh p s) q
  meets_fresh (lies_while {i} {b} {l} {j} {c} {p} e d g z) s = rw (e s)
      (elim (test c s) as (λ x. Meets (while c p) i j s (by_verdict s x (goes (p then while c p) s) (goes null s)) (by_verdict s x (goes b s) (goes l s))) [
        | Verdict.holds ↦ went (live stay stay (runs_then (runs_quiet (fresh d) (on g here)) (lies_while e d g z)))
        | Verdict.fails ↦ went (over stay (one (z s) stay))
        | Verdict.fault f ↦ failed
      ])
  meets_fresh (lies_choice {i} {b} {m} {j} {c} {p} {q} e d g f z) s = rw (e s)
      (elim (test c s) as (λ x. Meets (choice c p q) i j s (by_verdict s x (goes p s) (goes q s)) (by_verdict s x (goes b s) (goes m s))) [
        | Verdict.holds ↦ went (live stay stay (runs_quiet (fresh d) (on g (on z here))))
        | Verdict.fails ↦ went (live stay stay (runs_quiet (fresh f) (on z here)))
        | Verdict.fault w ↦ failed
      ])

  meets : {i j : Control} {p : Statement Simple Condition} → Runs i p j → (s : State) → Meets p i j s (run p s) (move i s)
  unfolding step
  meets (fresh l) s = meets_fresh l s
  meets (runs_then r l) s = meets_then (meets r s) l
  meets (runs_quiet r q) s = meets_quiet (meets r s) q

  -- The process and the control at which what is left of its statement lies; where that ends stands the first one.
  abbrev Placed : Control → Process Simple Condition → Control → Type 0
  Placed first at_loop i = ⊥
  Placed first (doing p) i = Runs i p first

  module _ (first : Control) (body : Statement Simple Condition) (lies : Lies first body first) where
    abbrev X : Machine State Stop
    X = text effect test body

    steps_doing : {p q : Statement Simple Condition} {s t : State} → Steps run p s q t → Steps X.move (doing p) s (doing q) t
    unfolding step_process
    steps_doing stay = stay
    steps_doing {s} (one e r) = one (ap (before_loop s) e) (steps_doing r)

    together : {p : Statement Simple Condition} {i : Control} {s : State} → Joins first p i s → Together X Y (Placed first) (doing p) i s
    unfolding step_process step
    together (live a b r) = record { left = doing _; right = _; state = _; left_steps = steps_doing a; right_steps = b; alike = r }
    together (over a b) = record {
      left = doing body;
      right = first;
      state = _;
      left_steps = steps_then (steps_doing a) (one refl (one refl stay));
      right_steps = b;
      alike = fresh lies;
    }

    matched : {p : Statement Simple Condition} {i : Control} {s : State} {x : Move State Stop (Statement Simple Condition)} {y : Move State Stop Control}
        → Meets p i first s x y → Matched X Y (Placed first) (doing p) i (before_loop s x) y
    unfolding step_process
    matched {s} (ended g) = both_go (record { left = doing body; right = first; state = s; left_steps = one refl stay; right_steps = g; alike = fresh lies })
    matched (went g) = both_go (together g)
    matched (waited g) = both_wait (λ u. together (g u))
    matched failed = both_fault

    match : (x : Process Simple Condition) (i : Control) → Placed first x i → (s : State) → Matched X Y (Placed first) x i (X.move x s) (move i s)
    unfolding step_process
    match at_loop i r s = absurd r
    match (doing p) i r s = matched (meets r s)

    -- The text shows what the machine shows, from the start and past each wait.
    pub same_as_text : (s : State) (h : History State Stop) → Shows X at_loop s h ↔ Shows Y first s h
    unfolding step_process
    same_as_text s h =
        let same = same_shown X Y (Placed first) match {x = doing body} {y = first} (fresh lies) s h in (
          λ (n, w). let (m, le, v) = shows_after X (one refl stay) w in same.0 (m, v),
          λ w. shows_before X (one refl stay) (same.1 w),
        )
