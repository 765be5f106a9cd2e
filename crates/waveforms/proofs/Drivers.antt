-- The laws of a driver's struct: the waveform that its arrays hold, and what each of its functions has to show.
-- Assumes nothing.
use mathlib.Core.Path.{◌≡◌, refl, sym, ap, ◌∙◌}
use mathlib.Core.List.{List, [], ◌∷◌, ◌++◌}
use Prim.Native.Nat.{ℕ, zero, suc, ◌+◌, ◌-◌, ◌≤◌, ◌<◌}
use native.Mathlib.Nat.{le_of_suc-le-suc, not-suc-le-zero}
use native.Mathlib.Decide.{ℕ_discrete}
use native.Mathlib.Numerals.{one-add}
use native.Mathlib.Omega.{arith}
use lib.ListN.{length, get_or, drop, set, length-set, length-drop, drop_of_length-le, get_or-append}
use lib.Seq.{drop-cons, get_or-drop, get_or-set_same, get_or-set_other}
use Rattle.base.specs.Below.{list_below}
use Rattle.base.proofs.Below.{list_none, list_first, list_length, list_at, list_same}
use Rattle.rules.specs.declared.driven.Driven.TheVariants.{To}
use Rattle.rules.specs.Configuration.{Transaction}
use Rattle.rules.specs.Invariant.{Rising}
use Rattle.waveforms.specs.Pending.{never, driven_of, pending_of, first_time}
use Rattle.waveforms.specs.Waveform.{Waveform, Nearer, Ahead, Elapsed}
use Rattle.waveforms.specs.declared.driver.Driver.{Driver}

abbrev pub nothing : Transaction
nothing = record { time = 0; value = To 0 }

-- transaction j of the arrays, at the time t
abbrev pub transaction_at : ℕ → Driver → ℕ → Transaction
transaction_at t d j = record { time = t + get_or d.times j 0; value = driven_of (get_or d.values j 0) }

-- each transaction of a waveform is later than those before it
from_first : (t : ℕ) (w : List Transaction) → Rising t w → (k : ℕ) → k < length w → t ≤ (get_or w k nothing).time
from_first t [] r k h = absurd (not-suc-le-zero h)
from_first t (x ∷ w) r zero h = r.0
from_first t (x ∷ w) r (suc k) h = omega (arith, r.0, from_first (x.time + 1) w r.2 k (le_of_suc-le-suc h))

later : (t : ℕ) (w : List Transaction) → Rising t w → (j k : ℕ) → j < k → k < length w → (get_or w j nothing).time < (get_or w k nothing).time
later t [] r j k l h = absurd (not-suc-le-zero h)
later t (x ∷ w) r j zero l h = absurd (not-suc-le-zero l)
later t (x ∷ w) r zero (suc k) l h = omega (arith, from_first (x.time + 1) w r.2 k (le_of_suc-le-suc h))
later t (x ∷ w) r (suc j) (suc k) l h = later (x.time + 1) w r.2 j k (le_of_suc-le-suc l) (le_of_suc-le-suc h)

module _ (t : ℕ) (d : Driver) where
  pub pending_length : length (pending_of t d) ≡ d.count
  unfolding pending_of
  pending_length = list_length (transaction_at t d) d.count

  pub pending_at : (j : ℕ) → j < d.count → get_or (pending_of t d) j nothing ≡ transaction_at t d j
  unfolding pending_of
  pending_at j h = list_at (transaction_at t d) nothing d.count j h

  time_at : (j : ℕ) → j < d.count → (get_or (pending_of t d) j nothing).time ≡ t + get_or d.times j 0
  time_at j h = ap (λ (x : Transaction). x.time) (pending_at j h)

  pub pending_none : d.count ≡ 0 → pending_of t d ≡ []
  unfolding pending_of
  pending_none e = rw (e, list_none)

  -- the first, then the rest
  pub pending_first : 1 ≤ d.count → pending_of t d ≡ transaction_at t d 0 ∷ list_below (λ j. transaction_at t d (suc j)) (d.count - 1)
  unfolding pending_of
  pending_first h = let e : d.count ≡ suc (d.count - 1) = omega arith in ap (list_below (transaction_at t d)) e ∙ list_first (transaction_at t d) (d.count - 1)

  pub first_none : d.count ≡ 0 → never ≡ first_time (pending_of t d)
  first_none e = rw (pending_none e)

  pub first_some : (d.count ≡ 0 → ⊥) → t + get_or d.times 0 0 ≡ first_time (pending_of t d)
  first_some f = rw (pending_first (omega (arith, f)))

  -- a rising waveform rises in its arrays, and none of it is before its first time s
  module _ (s : ℕ) (r : Rising s (pending_of t d)) where
    pub waveform_of : d.count ≤ 8 → Waveform d
    waveform_of l =
        record {
          few = l;
          rising = λ j k m h. omega (arith, time_at j (omega arith), time_at k h, later s (pending_of t d) r j k m (rw pending_length h));
        }

    pub ahead_of : d.count ≤ 8 → Ahead (s - t) d
    ahead_of l = record { few = l; far = λ j h. omega (arith, time_at j h, from_first s (pending_of t d) r j (rw pending_length h)) }

-- without the first: the arrays are shifted
module _ (d : Driver) (us ws : List ℕ) (eu : us ≡ drop 1 d.times ++ 0 ∷ []) (ew : ws ≡ drop 1 d.values ++ 0 ∷ []) where
  abbrev rest : Driver
  rest = record { times = us; values = ws; count = d.count - 1 }

  next_at : (l : List ℕ) → length l ≡ 8 → (j : ℕ) → j < 7 → get_or (drop 1 l ++ 0 ∷ []) j 0 ≡ get_or l (suc j) 0
  next_at l e j h = rw (get_or-append (drop 1 l) (0 ∷ []) 0 j (rw length-drop (omega arith)), get_or-drop, one-add)

  pub shifted_pending : length d.times ≡ 8 → length d.values ≡ 8 → 1 ≤ d.count → d.count ≤ 8 → (t : ℕ) → pending_of t rest ≡ drop 1 (pending_of t d)
  unfolding pending_of
  shifted_pending lt lv h l t =
      rw (pending_first t d h)
      (list_same (transaction_at t rest) (λ j. transaction_at t d (suc j)) (d.count - 1)
      (λ j m. rw (eu, ew, next_at d.times lt j (omega arith), next_at d.values lv j (omega arith))))

-- times that come nearer, one after the other: the first i are n less, the others stand
pub record Nearing (old : List ℕ) (n i : ℕ) (new : List ℕ) : Type 0 where
  pub long : length new ≡ 8
  pub done : Nearer old i n new
  pub left : (j : ℕ) → i ≤ j → get_or new j 0 ≡ get_or old j 0

pub nearing_none : (old : List ℕ) (n : ℕ) → length old ≡ 8 → Nearing old n 0 old
nearing_none old n e = record { long = e; done = λ j h. absurd (omega arith); left = λ j h. refl }

module _ (old : List ℕ) (n i : ℕ) (new : List ℕ) (h : Nearing old n i new) where
  pub nearing_more : (v : ℕ) → i < 8 → n + v ≡ get_or new i 0 → Nearing old n (i + 1) (set new i v)
  nearing_more v l e =
      let m : i < length new = omega (arith, h.long) in
      record {
        long = length-set new i v ∙ h.long;
        done = λ j k. elim (ℕ_discrete j i) [
          | yes q ↦ rw (q, get_or-set_same new i v 0 m) (e ∙ h.left i (omega arith))
          | no q ↦ rw (get_or-set_other new i j v 0 q) (h.done j (omega (arith, q)))
        ];
        left = λ j k. get_or-set_other new i j v 0 (λ q. omega arith) ∙ h.left j (omega arith);
      }

  pub nearing_all : (c : ℕ) → i ≤ c → c ≤ i → Nearer old c n new
  nearing_all c l m j k = h.done j (omega arith)

-- n units later the same transactions are pending
pub elapsed_is : (d : Driver) (n : ℕ) (ts : List ℕ) → Nearer d.times d.count n ts → Elapsed n d (record { times = ts; values = d.values; count = d.count })
unfolding pending_of
elapsed_is d n ts h t =
    list_same _ (transaction_at t d) d.count (λ j l. let e : t + n + get_or ts j 0 ≡ t + get_or d.times j 0 = omega (arith, h j l) in rw e)

-- n elements of l, read one by one from i on
abbrev pub reads : {A : Type 0} → List A → A → ℕ → ℕ → List A
reads l d i zero = []
reads l d i (suc n) = get_or l i d ∷ reads l d (suc i) n

reads_drop : {A : Type 0} (l : List A) (d : A) (i n : ℕ) → i + n ≡ length l → reads l d i n ≡ drop i l
reads_drop l d i zero e = sym (drop_of_length-le l {i = i} (omega arith))
reads_drop l d i (suc n) e =
    let h : i < length l = omega arith in
    ap (λ (m : List _). get_or l i d ∷ m) (reads_drop l d (suc i) n (omega arith)) ∙ sym (drop-cons l i d h)

-- a list of eight without its first, and with another at its end
pub shifted : (l : List ℕ) → length l ≡ 8 → reads l 0 1 7 ++ 0 ∷ [] ≡ drop 1 l ++ 0 ∷ []
shifted l e = ap (λ (m : List ℕ). m ++ 0 ∷ []) (reads_drop l 0 1 7 (omega arith))
