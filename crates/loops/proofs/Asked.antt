-- The chain that the search computes is the one asked for, and no other is. Assumes nothing.
use mathlib.Core.Path.{◌≡◌, refl, sym, ◌∙◌}
use mathlib.Core.Bool.{Bool, true, ◌&&◌}
use mathlib.Core.List.{List, [], ◌∷◌}
use mathlib.Core.Logic.{inl, inr, ⊎_elim}
use Prim.Native.Nat.{ℕ, zero, suc, ◌+◌, ◌-◌, ◌≤◌, ◌<◌}
use native.Mathlib.Nat.{zero-add, eq-or-lt_of_le, le_antisymm, suc_inj}
use native.Mathlib.Omega.{arith}
use lib.Dec.{ltb}
use lib.ListN.{length, get_or, get_or-eq_default}
use borrow.Author.Tests.{lt-ltb, ltb-true, ltb-false}
use Rattle.base.specs.Course.{first_with}
use Rattle.base.proofs.Below.{split}
use Rattle.base.proofs.Cases.{by_test}
use Rattle.base.proofs.Course.{first_at, first_before, first_lowest}
use Rattle.loops.specs.Chains.{ClosedChain, InTurn, start_of, Asked}
use Rattle.loops.specs.Search.{walks, next_on, chain_from, round_of, lowest_on, chain_of}
use Rattle.loops.proofs.Pigeonhole.{Twice, pigeonhole}
use Rattle.loops.proofs.Walks.{Walk, join}
use Rattle.loops.proofs.Search.{any_default, Listed, listed_part, walk_found, chain_length, chain_first, closed_chain}

-- two lists of one length that are both not after the other are equal
pub in_turn_same : (xs ys : List ℕ) → length xs ≡ length ys → InTurn xs ys → InTurn ys xs → xs ≡ ys
in_turn_same [] [] e a b = refl
in_turn_same [] (y ∷ ys) e a b = absurd b
in_turn_same (x ∷ xs) [] e a b = absurd a
in_turn_same (x ∷ xs) (y ∷ ys) e (inl l) (inl g) = absurd (omega arith)
in_turn_same (x ∷ xs) (y ∷ ys) e (inl l) (inr g) = absurd (omega (arith, g.0))
in_turn_same (x ∷ xs) (y ∷ ys) e (inr l) (inl g) = absurd (omega (arith, l.0))
in_turn_same (x ∷ xs) (y ∷ ys) e (inr l) (inr g) = rw (l.0, in_turn_same xs ys (suc_inj e) l.1 g.1)

module _ (leads : ℕ → ℕ → Bool) (P : ℕ) where
  chain_listing : {ys : List ℕ} → ClosedChain leads P ys → Listed leads P ys (start_of ys)
  chain_listing h = record { there = h.there; linked = h.linked }

  -- a closed chain has at most P processes, since it has each once
  chain_few : {ys : List ℕ} → ClosedChain leads P ys → length ys ≤ P
  chain_few {ys} h =
      ⊎_elim
      (λ (l : P < length ys).
      let t : Twice (λ i. get_or ys i 0) P = pigeonhole P (λ i. get_or ys i 0) (λ i k. h.there i (omega arith)) in
      absurd (h.once t.i t.j t.order (omega (arith, t.within)) t.same))
      (λ (l : length ys ≤ P). l)
      (split P (length ys))

  -- it leads from each of its processes back to that one
  chain_round : {ys : List ℕ} → ClosedChain leads P ys → (i : ℕ) → i < length ys → Walk leads P (length ys) (get_or ys i 0) (get_or ys i 0)
  chain_round {ys} h i l =
      let w = chain_listing h in
      let a : Walk leads P i (get_or ys 0 (start_of ys)) (get_or ys (0 + i) (start_of ys)) = listed_part leads P w 0 i (omega arith) in
      let b : Walk leads P (length ys - i) (get_or ys i (start_of ys)) (get_or ys (i + (length ys - i)) (start_of ys)) =
      listed_part leads P w i (length ys - i) (omega arith) in
      let e : i + (length ys - i) ≡ length ys = omega arith in
      let z : get_or ys (length ys) (start_of ys) ≡ start_of ys = get_or-eq_default ys (start_of ys) (omega arith) in
      let a' : Walk leads P i (start_of ys) (get_or ys i 0) =
      rw (zero-add, any_default ys 0 (start_of ys) 0 h.some, any_default ys i (start_of ys) 0 l) at a in
      let b' : Walk leads P (length ys - i) (get_or ys i 0) (start_of ys) = rw (e, z, any_default ys i (start_of ys) 0 l) at b in
      let n : length ys - i + i ≡ length ys = omega arith in
      rw n at (join leads P b' a')

  -- so the search closes there by no more edges
  round_most : {ys : List ℕ} → ClosedChain leads P ys → (i : ℕ) → i < length ys → suc (round_of leads P (get_or ys i 0)) ≤ length ys
  unfolding round_of
  round_most {ys} h i l =
      let s : ℕ = get_or ys i 0 in
      let e : length ys ≡ suc (length ys - 1) = omega arith in
      let t : walks leads P s (suc (length ys - 1)) s ≡ true = rw e at (walk_found leads P s (h.there i l) (chain_round h i l)) in
      omega (arith, first_lowest (λ k. walks leads P s (suc k) s) P (length ys - 1) t)

  lowest_most : {ys : List ℕ} → ClosedChain leads P ys → (i : ℕ) → i < length ys → lowest_on leads P ≤ get_or ys i 0
  unfolding lowest_on
  lowest_most {ys} h i l =
      first_lowest (λ s. ltb (round_of leads P s) P) P (get_or ys i 0)
      (lt-ltb _ P (omega (arith, round_most h i l, chain_few h)))

  -- the chain that the search makes is not after any other walk by as many edges
  module _ (s : ℕ) (low : s < P) where
    lower_first : (k w : ℕ) (ys : List ℕ) → length ys ≡ k → w < get_or ys 0 s → InTurn (chain_from leads P s k w) ys
    unfolding chain_from
    lower_first zero w ys e l = tt
    lower_first (suc k) w [] e l = absurd (omega arith)
    lower_first (suc k) w (y ∷ ys) e l = inl l

    next_most : (k v w : ℕ) → leads v w ≡ true → walks leads P s k w ≡ true → next_on leads P s k v ≤ w
    unfolding next_on
    next_most k v w l h = first_lowest (λ x. leads v x && walks leads P s k x) P w (rw (l, h))

    in_turn : (k v : ℕ) (ys : List ℕ) → length ys ≡ k → get_or ys 0 s ≡ v → Listed leads P ys s → InTurn (chain_from leads P s k v) ys
    unfolding chain_from
    in_turn zero v ys e b w = tt
    in_turn (suc k) v [] e b w = absurd (omega arith)
    in_turn (suc k) v (y ∷ ys) e b w =
        let n : length ys ≡ k = suc_inj e in
        let rest : Listed leads P ys s = record { there = λ i l. w.there (suc i) (omega arith); linked = λ i l. w.linked (suc i) (omega arith) } in
        let z : get_or ys k s ≡ s = get_or-eq_default ys s (omega arith) in
        let on : Walk leads P k (get_or ys 0 s) s = rw (zero-add, z) at (listed_part leads P rest 0 k (omega arith)) in
        let most : next_on leads P s k v ≤ get_or ys 0 s = next_most k v (get_or ys 0 s) (rw b at (w.linked 0 (omega arith))) (walk_found leads P s low on) in
        inr (
          sym b,
          ⊎_elim
              (λ (same : next_on leads P s k v ≡ get_or ys 0 s). in_turn k (next_on leads P s k v) ys n (sym same) rest)
              (λ (l : next_on leads P s k v < get_or ys 0 s). lower_first k (next_on leads P s k v) ys n l)
              (eq-or-lt_of_le most),
        )

  -- where a process is on a closed chain
  module _ (h : lowest_on leads P < P) where
    found_round : round_of leads P (lowest_on leads P) < P
    unfolding lowest_on
    found_round = ltb-true _ P (first_at (λ s. ltb (round_of leads P s) P) P h)

    found_closed : ClosedChain leads P (chain_from leads P (lowest_on leads P) (suc (round_of leads P (lowest_on leads P))) (lowest_on leads P))
    unfolding round_of
    found_closed =
        let s : ℕ = lowest_on leads P in
        let f : ℕ → Bool = λ l. walks leads P s (suc l) s in
        closed_chain leads P s h (first_with f P) (first_at f P found_round) (λ k. first_before f P k)

    found_asked : Asked leads P (chain_from leads P (lowest_on leads P) (suc (round_of leads P (lowest_on leads P))) (lowest_on leads P))
    found_asked =
        let s : ℕ = lowest_on leads P in
        let n = chain_length leads P s h (suc (round_of leads P s)) s in
        let b = chain_first leads P s h (round_of leads P s) s 0 in
        record {
          none = λ e. absurd (omega arith);
          closed = λ l. found_closed;
          lowest = λ ys c i l. rw b (lowest_most c i l);
          shortest = λ ys c e. rw (n, ← b, ← e) (round_most c 0 c.some);
          least = λ ys c e m. in_turn s h (suc (round_of leads P s)) s ys (m ∙ n) (any_default ys 0 s 0 c.some ∙ e ∙ b) (rw (e ∙ b) at (chain_listing c));
        }

  none_asked : P ≤ lowest_on leads P → Asked leads P []
  none_asked h =
      record {
        none = λ e ys c. omega (arith, lowest_most c 0 c.some, c.there 0 c.some);
        closed = λ l. absurd (omega arith);
        lowest = λ ys c i l. omega arith;
        shortest = λ ys c e. omega arith;
        least = λ ys c e m. tt;
      }

  pub asked : Asked leads P (chain_of leads P)
  unfolding chain_of
  asked =
      by_test (Asked leads P) (ltb (lowest_on leads P) P) _ []
      (λ e. found_asked (ltb-true _ _ e))
      (λ e. none_asked (ltb-false _ _ e))

  -- no other list is what is asked
  pub unique : (xs ys : List ℕ) → Asked leads P xs → Asked leads P ys → xs ≡ ys
  unique [] [] a b = refl
  unique [] (y ∷ ys) a b = absurd (a.none refl (y ∷ ys) (b.closed (omega arith)))
  unique (x ∷ xs) [] a b = absurd (b.none refl (x ∷ xs) (a.closed (omega arith)))
  unique (x ∷ xs) (y ∷ ys) a b =
      let c = a.closed (omega arith) in
      let d = b.closed (omega arith) in
      let first : x ≡ y = le_antisymm (a.lowest (y ∷ ys) d 0 (omega arith)) (b.lowest (x ∷ xs) c 0 (omega arith)) in
      let long : length (x ∷ xs) ≡ length (y ∷ ys) = le_antisymm (a.shortest (y ∷ ys) d (sym first)) (b.shortest (x ∷ xs) c first) in
      in_turn_same (x ∷ xs) (y ∷ ys) long (a.least (y ∷ ys) d (sym first) (sym long)) (b.least (x ∷ xs) c first long)

-- Two relations that agree on the processes have the same closed chains, and the same one is asked for.
module _ (leads other : ℕ → ℕ → Bool) (P : ℕ) (same : (a b : ℕ) → a < P → b < P → leads a b ≡ other a b) where
  -- what follows a process of the chain is one of its processes
  next_below : {ys : List ℕ} → ClosedChain leads P ys → (i : ℕ) → get_or ys (suc i) (start_of ys) < P
  next_below {ys} c i =
      ⊎_elim
      (λ (l : suc i < length ys). rw (any_default ys (suc i) (start_of ys) 0 l) (c.there (suc i) l))
      (λ (l : length ys ≤ suc i). rw (get_or-eq_default ys (start_of ys) l) (c.there 0 c.some))
      (split (suc i) (length ys))

  pub closed_same : {ys : List ℕ} → ClosedChain leads P ys → ClosedChain other P ys
  closed_same {ys} c =
      record {
        some = c.some;
        there = c.there;
        linked = λ i l. sym (same _ _ (c.there i l) (next_below c i)) ∙ c.linked i l;
        once = c.once;
      }

pub asked_same : (leads other : ℕ → ℕ → Bool) (P : ℕ) → ((a b : ℕ) → a < P → b < P → leads a b ≡ other a b) → (xs : List ℕ)
    → Asked leads P xs → Asked other P xs
asked_same leads other P same xs a =
    let back : (ys : List ℕ) → ClosedChain other P ys → ClosedChain leads P ys = λ ys c. closed_same other leads P (λ x y l h. sym (same x y l h)) c in
    record {
      none = λ e ys c. a.none e ys (back ys c);
      closed = λ l. closed_same leads other P same (a.closed l);
      lowest = λ ys c. a.lowest ys (back ys c);
      shortest = λ ys c. a.shortest ys (back ys c);
      least = λ ys c. a.least ys (back ys c);
    }
