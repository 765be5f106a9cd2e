-- Two machines that match, step by step and past each wait, show the same histories.
-- Assumes nothing.
use mathlib.Core.Path.{◌≡◌, refl}
use mathlib.Core.Logic.{◌↔◌}
use Prim.Native.Nat.{ℕ, zero, suc, ◌≤◌, ◌<◌}
use native.Mathlib.Omega.{arith}
use Rattle.meaning.specs.Machine.{Move, goes, waits, faults, Machine, History, ShowsIn, later, wait, fault, on, Shows}

-- any number of steps
pub data Steps {State Stop C : Type 0} (move : C → State → Move State Stop C) : C → State → C → State → Type 0 where
  stay : {c : C} {s : State} → Steps move c s c s
  step : {c d e : C} {s t u : State} → move c s ≡ goes d t → Steps move d t e u → Steps move c s e u

pub steps_then : {State Stop C : Type 0} {move : C → State → Move State Stop C} {c d e : C} {s t u : State}
    → Steps move c s d t → Steps move d t e u → Steps move c s e u
steps_then stay q = q
steps_then (step e p) q = step e (steps_then p q)

-- from two equations that cannot both hold
pub clash : {A : Type 0} → ◌≡◌ {A = ℕ} 0 1 → A
clash e = absurd (omega arith)

module _ {State Stop : Type 0} (M : Machine State Stop) where
  open M use {Control, move, past}

  -- what is shown later is shown now
  pub shows_before : {c d : Control} {s t : State} {h : History State Stop} → Steps move c s d t → Shows M d t h → Shows M c s h
  shows_before stay w = w
  shows_before (step e p) w = let (n, x) = shows_before p w in (suc n, later e x)

  -- two steps of one configuration are one
  one_step : {n : ℕ} {c d e : Control} {s t u : State} {h : History State Stop} → move c s ≡ goes d t → move c s ≡ goes e u
      → ShowsIn M n d t h → ShowsIn M n e u h
  one_step {d} {e} {t} {u} f g w =
      let same-control : d ≡ e = cc in
      let same-state : t ≡ u = cc in
      rw (same-control, same-state) at w

  -- what is shown now is shown later, in no more steps
  pub shows_after : {n : ℕ} {c d : Control} {s t : State} {h : History State Stop} → Steps move c s d t → ShowsIn M n c s h
      → (m : ℕ) × (m ≤ n) × ShowsIn M m d t h
  shows_after {n} stay w = (n, omega arith, w)
  shows_after {h = h} (step {c = c} {d = d} {e = e'} {s = s} {t = t} {u = u} e p) (later {n = n} {d = d'} {t = t'} f w) =
      let (m, le, x) = shows_after {n = n} p (one_step f e w) in (m, omega arith, x)
  shows_after (step e p) (wait f) = clash (cc)
  shows_after (step e p) (fault f) = clash (cc)
  shows_after (step e p) (on f w) = clash (cc)

module _ {State Stop : Type 0} (X Y : Machine State Stop) (Alike : X.Control → Y.Control → Type 0) where
  -- in the same state both come to like controls, in the same state again
  pub record Together (x : X.Control) (y : Y.Control) (s : State) : Type 0 where
    pub left : X.Control
    pub right : Y.Control
    pub state : State
    pub left_steps : Steps X.move x s left state
    pub right_steps : Steps Y.move y s right state
    pub alike : Alike left right

  -- what the steps of like controls come to
  pub data Matched (x : X.Control) (y : Y.Control) : Move State Stop X.Control → Move State Stop Y.Control → Type 0 where
    both_go : {v : X.Control} {w : Y.Control} {s : State} → Together v w s → Matched x y (goes v s) (goes w s)
    both_wait : {w : Stop} {s : State} → ((t : State) → Together (X.past x w) (Y.past y w) t) → Matched x y (waits w s) (waits w s)
    both_fault : {w : Stop} {s : State} → Matched x y (faults w s) (faults w s)

  abbrev pub Match : Type 0
  Match = (x : X.Control) (y : Y.Control) → Alike x y → (s : State) → Matched x y (X.move x s) (Y.move y s)

module _ {State Stop : Type 0} (X Y : Machine State Stop) (Alike : X.Control → Y.Control → Type 0) (match : Match X Y Alike) where
  -- what is shown in fewer than b steps
  abbrev Carried : ℕ → Type 0
  Carried b = (n : ℕ) (x : X.Control) (y : Y.Control) (s : State) (h : History State Stop) → n < b → Alike x y → ShowsIn X n x s h → Shows Y y s h

  from_together : (b n : ℕ) (x : X.Control) (y : Y.Control) (s : State) (h : History State Stop) → Carried b → n < b → Together X Y Alike x y s
      → ShowsIn X n x s h → Shows Y y s h
  from_together b n x y s h ih le g w =
      let (m, fewer, v) = shows_after X g.left_steps w in
      shows_before Y g.right_steps (ih m g.left g.right g.state h (omega arith) g.alike v)

  carry : (b n : ℕ) (x : X.Control) (y : Y.Control) (s : State) (h : History State Stop) → Carried b → n < suc b
      → (p : Move State Stop X.Control) (q : Move State Stop Y.Control) → X.move x s ≡ p → Y.move y s ≡ q → Matched X Y Alike x y p q
      → ShowsIn X n x s h → Shows Y y s h
  carry b n x y s h ih le p q ep eq (both_go g) (later f w) =
      let (m, v) = from_together b _ _ _ _ h ih (omega arith) g (one_step X f ep w) in (suc m, later eq v)
  carry b n x y s h ih le p q ep eq (both_go g) (wait f) = clash (cc)
  carry b n x y s h ih le p q ep eq (both_go g) (fault f) = clash (cc)
  carry b n x y s h ih le p q ep eq (both_go g) (on f w) = clash (cc)
  carry b n x y s h ih le p q ep eq (both_wait g) (later f w) = clash (cc)
  carry b n x y s h ih le p q ep eq (both_wait g) (wait {t = t} {w = w} f) = let e : Y.move y s ≡ waits w t = cc in (0, wait e)
  carry b n x y s h ih le p q ep eq (both_wait g) (fault f) = clash (cc)
  carry b n x y s h ih le p q ep eq (both_wait {w = j} g) (on {t = t} {u = u} {w = k} {h = rest} f w) =
      let e : Y.move y s ≡ waits k t = cc in
      let same : j ≡ k = cc in
      let (m, v) = from_together b _ _ _ u rest ih (omega arith) (rw same at (g u)) w in (suc m, on {n = m} e v)
  carry b n x y s h ih le p q ep eq both_fault (later f w) = clash (cc)
  carry b n x y s h ih le p q ep eq both_fault (wait f) = clash (cc)
  carry b n x y s h ih le p q ep eq both_fault (fault {t = t} {w = w} f) = let e : Y.move y s ≡ faults w t = cc in (0, fault e)
  carry b n x y s h ih le p q ep eq both_fault (on f w) = clash (cc)

  carried : (b : ℕ) → Carried b
  carried zero n x y s h le a w = absurd (omega arith)
  carried (suc b) n x y s h le a w = carry b n x y s h (carried b) le _ _ refl refl (match x y a s) w

  -- what the one shows, the other shows
  pub shown : {x : X.Control} {y : Y.Control} {s : State} {h : History State Stop} → Alike x y → Shows X x s h → Shows Y y s h
  shown {x} {y} {s} {h} a (n, w) = carried (suc n) n x y s h (omega arith) a w

module _ {State Stop : Type 0} (X Y : Machine State Stop) (Alike : X.Control → Y.Control → Type 0) where
  -- matching has no side
  turned_together : {x : X.Control} {y : Y.Control} {s : State} → Together X Y Alike x y s → Together Y X (λ v w. Alike w v) y x s
  turned_together g = record { left = g.right; right = g.left; state = g.state; left_steps = g.right_steps; right_steps = g.left_steps; alike = g.alike }

  turned : {x : X.Control} {y : Y.Control} {p : Move State Stop X.Control} {q : Move State Stop Y.Control} → Matched X Y Alike x y p q
      → Matched Y X (λ v w. Alike w v) y x q p
  turned (both_go g) = both_go (turned_together g)
  turned (both_wait g) = both_wait (λ t. turned_together (g t))
  turned both_fault = both_fault

  -- Two machines that match show the same from like controls.
  pub same_shown : Match X Y Alike → {x : X.Control} {y : Y.Control} → Alike x y → (s : State) (h : History State Stop)
      → Shows X x s h ↔ Shows Y y s h
  same_shown match a s h = (shown X Y Alike match a, shown Y X (λ v w. Alike w v) (λ y x b t. turned (match x y b t)) a)
