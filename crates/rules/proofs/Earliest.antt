-- The earliest of the times at which something is due. Assumes nothing.
use mathlib.Core.Path.{◌≡◌, refl}
use mathlib.Core.Logic.{⊎_elim}
use mathlib.Core.List.{List, [], ◌∷◌, ◌++◌}
use mathlib.Core.Option.{some}
use Prim.Native.Nat.{ℕ, zero, suc, ◌+◌, ◌≤◌, ◌<◌, min}
use native.Mathlib.Nat.{le_antisymm, eq-or-lt_of_le, le_of_suc-le-suc}
use native.Mathlib.Omega.{arith}
use lib.ListN.{length}
use Rattle.base.specs.Below.{join_below, list_below, All}
use Rattle.base.proofs.Below.{split, list_none, list_more}
use Rattle.blocks.specs.Records.{Model}
use Rattle.rules.specs.Orders.{least, earliest, times_in, optional, due_times}
use Rattle.rules.specs.Configuration.{Configuration, driver_in, process_in}
use Rattle.base.proofs.All.{all_left, all_right, all_append, all_join, all_part}

-- nothing is earlier than the least
from_least : (s t : ℕ) (ts : List ℕ) → s ≤ least t ts → (s ≤ t) × All (λ u. s ≤ u) ts
from_least s t [] h = (h, tt)
from_least s t (u ∷ us) h = let r = from_least s (min t u) us h in (omega (arith, r.0), (omega (arith, r.0), r.1))

pub none_earlier : (ts : List ℕ) (t : ℕ) → earliest ts ≡ some t → All (λ u. t ≤ u) ts
none_earlier [] t e = tt
none_earlier (u ∷ us) t e = let q : least u us ≡ t = cc in from_least t u us (omega arith)

-- one time more
least_more : (s : ℕ) (ts : List ℕ) (t : ℕ) → least s (ts ++ (t ∷ [])) ≡ min (least s ts) t
least_more s [] t = refl
least_more s (u ∷ us) t = least_more (min s u) us t

-- a loop that takes the least of f 0, f 1, .. and s
module _ (s : ℕ) (f : ℕ → ℕ) where
  pub least_start : s ≡ least s (list_below f 0)
  least_start = rw list_none

  pub least_next : (i t u : ℕ) → t ≡ least s (list_below f i) → u ≡ min t (f i) → u ≡ least s (list_below f (i + 1))
  least_next i t u h e = rw (list_more, least_more, ← h) e

  -- t is not after the least where it is after none, and the least is after none
  least_above : (n t : ℕ) → t ≤ s → ((k : ℕ) → k < n → t ≤ f k) → t ≤ least s (list_below f n)
  unfolding list_below
  least_above zero t h g = h
  least_above (suc n) t h g =
      rw least_more (omega (arith, least_above n t h (λ k l. g k (omega arith)), g n (omega arith)))

  least_under : (n i : ℕ) → i < n → least s (list_below f n) ≤ f i
  unfolding list_below
  least_under zero i l = absurd (omega arith)
  least_under (suc n) i l =
      rw least_more
      (⊎_elim (λ (e : i ≡ n). rw e (omega arith)) (λ (l : i < n). omega (arith, least_under n i l)) (eq-or-lt_of_le (le_of_suc-le-suc l)))

  -- it has found t: no time is before t, so those that are left need no look
  pub least_found : (n i t : ℕ) → i < n → f i ≡ t → t ≤ s → ((k : ℕ) → k < n → t ≤ f k) → t ≡ least s (list_below f n)
  least_found n i t l e h g = omega (arith, least_above n t h g, least_under n i l)

  pub least_done : (n i t : ℕ) → i ≤ n → n ≤ i → t ≡ least s (list_below f i) → t ≡ least s (list_below f n)
  least_done n i t h k e = rw (le_antisymm h k) at e

-- the earliest is one of them
min_is : (P : ℕ → Type 0) (t u : ℕ) → P t → P u → P (min t u)
min_is P t u h k =
    ⊎_elim (λ (l : t < u). let e : min t u ≡ t = omega arith in rw e h) (λ (l : u ≤ t). let e : min t u ≡ u = omega arith in rw e k) (split t u)

least_is : (P : ℕ → Type 0) (t : ℕ) (ts : List ℕ) → P t → All P ts → P (least t ts)
least_is P t [] h a = h
least_is P t (u ∷ us) h a = least_is P (min t u) us (min_is P t u h a.0) a.1

pub earliest_is : (P : ℕ → Type 0) (ts : List ℕ) (t : ℕ) → earliest ts ≡ some t → All P ts → P t
earliest_is P [] t e a = let q : ◌≡◌ {A = ℕ} 0 1 = cc in absurd (omega arith)
earliest_is P (u ∷ us) t e a = let q : least u us ≡ t = cc in rw q at (least_is P u us a.0 a.1)

-- no transaction and no deadline is earlier than the earliest due time
module _ (M : Model) (c : Configuration) where
  abbrev first_of : ℕ → List ℕ
  first_of k = times_in (driver_in c.drivers k).pending

  abbrev deadline_of : ℕ → List ℕ
  deadline_of p = optional (process_in c.processes p).deadline

  abbrev firsts : List ℕ
  firsts = join_below first_of (length M.drivers)

  abbrev deadlines : List ℕ
  deadlines = join_below deadline_of (length M.processes)

  -- what holds of each driver's first transaction and each deadline holds of each due time
  pub due_each : (P : ℕ → Type 0) → ((k : ℕ) → k < length M.drivers → All P (first_of k)) → ((p : ℕ) → p < length M.processes → All P (deadline_of p)) → All P (due_times M c)
  unfolding due_times
  due_each P h g = all_append P firsts deadlines (all_join P first_of (length M.drivers) h) (all_join P deadline_of (length M.processes) g)

  module _ (t : ℕ) (e : earliest (due_times M c) ≡ some t) where
    all_later : All (λ u. t ≤ u) (firsts ++ deadlines)
    unfolding due_times
    all_later = none_earlier (due_times M c) t e

    pub transactions_later : (k : ℕ) → k < length M.drivers → All (λ u. t ≤ u) (first_of k)
    transactions_later k h = all_part (λ u. t ≤ u) first_of (length M.drivers) k h (all_left (λ u. t ≤ u) firsts deadlines all_later)

    pub deadlines_later : (p : ℕ) → p < length M.processes → All (λ u. t ≤ u) (deadline_of p)
    deadlines_later p h = all_part (λ u. t ≤ u) deadline_of (length M.processes) p h (all_right (λ u. t ≤ u) firsts deadlines all_later)
