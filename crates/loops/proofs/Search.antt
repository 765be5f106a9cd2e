-- Walks as the search computes them, walks as lists, and the closed chain that the fewest edges make.
-- Assumes nothing.
use mathlib.Core.Path.{◌≡◌, refl, sym, ap, ◌∙◌}
use mathlib.Core.Bool.{Bool, true, false, ◌&&◌, true≢false}
use mathlib.Core.List.{List, [], ◌∷◌}
use Prim.Native.Nat.{ℕ, zero, suc, ◌+◌, ◌-◌, ◌≤◌, ◌<◌}
use native.Mathlib.Nat.{zero-add, add-zero, not-suc-le-zero, le_of_suc-le-suc}
use native.Mathlib.Omega.{arith}
use lib.ListN.{length, get_or, get_or-eq_default}
use borrow.Author.Tests.{eqb-true, eq-eqb}
use Rattle.base.specs.Course.{first_with}
use Rattle.base.proofs.Below.{and_left, and_right, any_found}
use Rattle.base.proofs.Course.{first_at, first_before, first_there, first_lowest}
use Rattle.loops.specs.Chains.{ClosedChain}
use Rattle.loops.specs.Search.{walks, next_on, chain_from}
use Rattle.loops.proofs.Walks.{Walk, here, then, join, Round}

both : {a b : Bool} → a ≡ true → b ≡ true → (a && b) ≡ true
both p q = rw (p, q)

-- an element that is there, whatever stands for one that is not
pub any_default : (xs : List ℕ) (i d e : ℕ) → i < length xs → get_or xs i d ≡ get_or xs i e
any_default [] i d e h = absurd (not-suc-le-zero h)
any_default (x ∷ xs) zero d e h = refl
any_default (x ∷ xs) (suc i) d e h = any_default xs i d e (le_of_suc-le-suc h)

module _ (leads : ℕ → ℕ → Bool) (P : ℕ) where
  -- a walk begins below P where it ends below P
  begins_below : {n p q : ℕ} → Walk leads P n p q → q < P → p < P
  begins_below here h = h
  begins_below (then b l w) h = b

  -- the list xs, with to behind it, is a walk
  pub record Listed (xs : List ℕ) (to : ℕ) : Type 0 where
    pub there : (i : ℕ) → i < length xs → get_or xs i 0 < P
    pub linked : (i : ℕ) → i < length xs → leads (get_or xs i 0) (get_or xs (suc i) to) ≡ true

  -- the m edges from place i on
  pub listed_part : {xs : List ℕ} {to : ℕ} → Listed xs to → (i m : ℕ) → i + m ≤ length xs → Walk leads P m (get_or xs i to) (get_or xs (i + m) to)
  listed_part w i zero h = rw add-zero here
  listed_part {xs} {to} w i (suc m) h =
      let l : i < length xs = omega arith in
      let e : i + suc m ≡ suc i + m = omega arith in
      rw (e, any_default xs i to 0 l) (then (w.there i l) (w.linked i l) (listed_part w (suc i) m (omega arith)))

  module _ (s : ℕ) (low : s < P) where
    -- what the search computes is whether there is a walk
    pub found_walk : (k v : ℕ) → v < P → walks leads P s k v ≡ true → Walk leads P k v s
    unfolding walks
    found_walk zero v b h = rw (eqb-true v s h) here
    found_walk (suc k) v b h =
        let f : ℕ → Bool = λ w. leads v w && walks leads P s k w in
        let l : first_with f P < P = first_there f P h in
        let t : f (first_with f P) ≡ true = first_at f P l in
        then b (and_left _ _ t) (found_walk k (first_with f P) l (and_right (leads v (first_with f P)) _ t))

    pub walk_found : {k v : ℕ} → Walk leads P k v s → walks leads P s k v ≡ true
    unfolding walks
    walk_found here = eq-eqb s s refl
    walk_found (then {n = k} {p = v} {q = q} b l w) =
        any_found (λ w. leads v w && walks leads P s k w) P q (begins_below w low) (both l (walk_found w))

    -- the next process is there, v leads to it, and it leads on
    module _ (k v : ℕ) (h : walks leads P s (suc k) v ≡ true) where
      pub next_there : next_on leads P s k v < P
      unfolding walks next_on
      next_there = first_there _ P h

      next_both : (leads v (next_on leads P s k v) && walks leads P s k (next_on leads P s k v)) ≡ true
      unfolding walks next_on
      next_both = first_at (λ w. leads v w && walks leads P s k w) P (first_there _ P h)

      pub next_led : leads v (next_on leads P s k v) ≡ true
      next_led = and_left _ _ next_both

      pub next_walks : walks leads P s k (next_on leads P s k v) ≡ true
      next_walks = and_right (leads v (next_on leads P s k v)) _ next_both

    pub chain_length : (k v : ℕ) → length (chain_from leads P s k v) ≡ k
    unfolding chain_from
    chain_length zero v = refl
    chain_length (suc k) v = ap suc (chain_length k (next_on leads P s k v))

    pub chain_first : (k v d : ℕ) → get_or (chain_from leads P s (suc k) v) 0 d ≡ v
    unfolding chain_from
    chain_first k v d = refl

    chain_begins : (k v : ℕ) → walks leads P s k v ≡ true → get_or (chain_from leads P s k v) 0 s ≡ v
    unfolding chain_from walks
    chain_begins zero v h = sym (eqb-true v s h)
    chain_begins (suc k) v h = refl

    chain_there : (k v : ℕ) → v < P → walks leads P s k v ≡ true → (i : ℕ) → i < k → get_or (chain_from leads P s k v) i 0 < P
    unfolding chain_from
    chain_there zero v b h i l = absurd (not-suc-le-zero l)
    chain_there (suc k) v b h zero l = b
    chain_there (suc k) v b h (suc i) l =
        chain_there k (next_on leads P s k v) (next_there k v h) (next_walks k v h) i (le_of_suc-le-suc l)

    chain_linked : (k v : ℕ) → walks leads P s k v ≡ true → (i : ℕ) → i < k
        → leads (get_or (chain_from leads P s k v) i 0) (get_or (chain_from leads P s k v) (suc i) s) ≡ true
    unfolding chain_from
    chain_linked zero v h i l = absurd (not-suc-le-zero l)
    chain_linked (suc k) v h zero l = rw (chain_begins k (next_on leads P s k v) (next_walks k v h)) (next_led k v h)
    chain_linked (suc k) v h (suc i) l = chain_linked k (next_on leads P s k v) (next_walks k v h) i (le_of_suc-le-suc l)

    pub chain_listed : (k v : ℕ) → v < P → walks leads P s k v ≡ true → Listed (chain_from leads P s k v) s
    chain_listed k v b h =
        record {
          there = λ i l. chain_there k v b h i (rw chain_length at l);
          linked = λ i l. chain_linked k v h i (rw chain_length at l);
        }

    -- the fewest edges that lead from s back to it make a closed chain: a process twice would leave fewer
    module _ (l : ℕ) (closes : walks leads P s (suc l) s ≡ true) (fewest : (k : ℕ) → k < l → walks leads P s (suc k) s ≡ false) where
      chain : List ℕ
      chain = chain_from leads P s (suc l) s

      cut : (i j : ℕ) → i < j → j < suc l → get_or chain i s ≡ get_or chain j s → ⊥
      unfolding chain
      cut i j o h same =
          let w = chain_listed (suc l) s low closes in
          let n : length (chain_from leads P s (suc l) s) ≡ suc l = chain_length (suc l) s in
          let a : Walk leads P i (get_or chain 0 s) (get_or chain (0 + i) s) = listed_part w 0 i (omega arith) in
          let b : Walk leads P (suc l - j) (get_or chain j s) (get_or chain (j + (suc l - j)) s) = listed_part w j (suc l - j) (omega arith) in
          let e : j + (suc l - j) ≡ suc l = omega arith in
          let z : get_or chain (suc l) s ≡ s = get_or-eq_default chain s (omega arith) in
          let a' : Walk leads P i s (get_or chain j s) = rw (zero-add, chain_first l s s, same) at a in
          let b' : Walk leads P (suc l - j) (get_or chain j s) s = rw (e, z) at b in
          let m : i + (suc l - j) ≡ suc (i + (l - j)) = omega arith in
          true≢false (sym (walk_found (rw m at (join leads P a' b'))) ∙ fewest (i + (l - j)) (omega arith))

      pub closed_chain : ClosedChain leads P (chain_from leads P s (suc l) s)
      unfolding chain
      closed_chain =
          let w = chain_listed (suc l) s low closes in
          let n : length (chain_from leads P s (suc l) s) ≡ suc l = chain_length (suc l) s in
          record {
            some = omega arith;
            there = w.there;
            linked = rw (chain_first l s 0) w.linked;
            once = λ i j o h e.
                cut i j o (omega arith) (any_default chain i s 0 (omega arith) ∙ e ∙ any_default chain j 0 s (omega arith));
          }

  -- a closed walk leaves a closed chain
  pub round_chain : Round leads P → (ys : List ℕ) × ClosedChain leads P ys
  round_chain r =
      let s : ℕ = r.start in
      let f : ℕ → Bool = λ l. walks leads P s (suc l) s in
      let l : ℕ = first_with f (suc r.less) in
      let t : f r.less ≡ true = walk_found s r.there r.walk in
      let h : l < suc r.less = omega (arith, first_lowest f (suc r.less) r.less t) in
      (chain_from leads P s (suc l) s, closed_chain s r.there l (first_at f _ h) (λ k. first_before f _ k))
