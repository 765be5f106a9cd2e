-- The sets of the search: one process more, one edge more. Assumes nothing.
use mathlib.Core.Path.{◌≡◌, refl, sym, ◌∙◌}
use mathlib.Core.Bool.{Bool, true, false, ◌&&◌, ◌||◌, and-false, or-false}
use mathlib.Core.List.{List, [], ◌∷◌, ◌++◌, append_assoc, append-nil}
use mathlib.Core.Logic.{⊎_elim}
use Prim.Native.Nat.{ℕ, zero, suc, ◌+◌, ◌-◌, ◌≤◌, ◌<◌}
use native.Mathlib.Nat.{sub-zero, le_antisymm}
use native.Mathlib.Numerals.{add-one}
use native.Mathlib.Decide.{ℕ_discrete}
use native.Mathlib.Omega.{arith}
use lib.Dec.{eqb, ltb}
use lib.ListN.{length, get_or, take, set as set_at, replicate, length-set}
use lib.Seq.{take-suc-set, get_or-set_other}
use borrow.Author.Tests.{lt-ltb, le-ltb, eq-eqb, ne_eqb}
use Rattle.base.specs.Below.{any_below}
use Rattle.base.specs.Course.{first_with}
use Rattle.base.proofs.Below.{split, any_same, any_fewer}
use Rattle.base.proofs.Course.{first_at, first_same}
use Rattle.loops.specs.Search.{walks, next_on, chain_from, round_of, lowest_on, chain_of}
use Rattle.loops.proofs.Search.{next_there, next_walks}
use Rattle.loops.proofs.Asked.{asked, unique}
use Rattle.sets.specs.Sets.{in_set, SetOf}
use Rattle.std.proofs.Common.{Some, None, subst}
use Rattle.loops.specs.Chains.{Asked}
use Rattle.chains.specs.Rows.{arrow, meets_row, leads_back, NamesBelow, Closes, IsChain, Returned}
use Rattle.chains.specs.declared.Chain.{Chain}
use Rattle.sets.proofs.Bits.{in_none}
use Rattle.chains.proofs.Sought.{NoneOf, sought, not_there}

-- no entry of a list of zeros is another number
zeros : (n i : ℕ) → get_or {A = ℕ} (replicate n 0) i 0 ≡ 0
zeros zero i = refl
zeros (suc n) zero = refl
zeros (suc n) (suc i) = zeros n i

-- below 1 more: below, or equal
below_more : (x v : ℕ) (f : ℕ → Bool) → (ltb x (v + 1) && f x) ≡ ((ltb x v && f x) || (eqb v x && f v))
below_more x v f =
    elim (ℕ_discrete v x) [
      | yes e ↦ rw (← e, eq-eqb v v refl, le-ltb v v (omega arith), lt-ltb v (v + 1) (omega arith))
      | no d ↦
          ⊎_elim
          (λ (l : x < v). rw (ne_eqb v x d, lt-ltb x v l, lt-ltb x (v + 1) (omega arith), or-false))
          (λ (l : v ≤ x). let g : v + 1 ≤ x = omega arith in rw (ne_eqb v x d, le-ltb x v l, le-ltb x (v + 1) g))
          (split x v)
    ]

-- the processes passed that f holds of
abbrev pub passed : (ℕ → Bool) → ℕ → ℕ → Bool
passed f v x = ltb x v && f x

module _ (f : ℕ → Bool) where
  pub none_passed : SetOf (passed f 0) 0
  none_passed = record { at = λ x l. in_none x ∙ sym (rw (le-ltb x 0 (omega arith))) }

  pub one_passed : (v out r : ℕ) (b : Bool) → SetOf (passed f v) out → b ≡ f v → SetOf (λ x. in_set out x || (eqb v x && b)) r
      → SetOf (passed f (v + 1)) r
  one_passed v out r b s e t = record { at = λ x l. t.at x l ∙ rw (s.at x l, e) (sym (below_more x v f)) }

-- x leads to one of the set
abbrev pub into : List ℕ → ℕ → ℕ → Bool
into rows set x = any_below (λ w. arrow rows x w && in_set set w) 32

pub all_passed : (rows : List ℕ) (P set v out : ℕ) → v ≤ P → P ≤ v → SetOf (passed (into rows set) v) out → SetOf (meets_row rows P set) out
unfolding meets_row
all_passed rows P set v out h k t = rw (le_antisymm h k) at t

module _ (rows : List ℕ) (P s : ℕ) where
  -- no edge
  pub no_edge : (r : ℕ) → s < P → SetOf (λ x. in_set 0 x || (eqb s x && true)) r → SetOf (leads_back rows P s 0) r
  unfolding leads_back walks
  no_edge r h t =
      record {
        at = λ x l.
            t.at x l
            ∙ elim (ℕ_discrete s x) [
              | yes e ↦ rw (in_none x, ← e, eq-eqb s s refl, lt-ltb s P h)
              | no d ↦ rw (in_none x, ne_eqb s x d, ne_eqb x s (λ e. d (sym e)), and-false)
            ];
      }

  -- one edge more
  pub one_edge : (k set r : ℕ) → P ≤ 16 → SetOf (leads_back rows P s k) set → SetOf (meets_row rows P set) r → SetOf (leads_back rows P s (k + 1)) r
  unfolding meets_row leads_back walks
  one_edge k set r h a b =
      record {
        at = λ x l.
            let same : into rows set x ≡ any_below (λ w. arrow rows x w && walks (arrow rows) P s k w) P =
            any_fewer (λ w. arrow rows x w && in_set set w) P 32 (omega arith) (λ i m n. rw (a.at i n, le-ltb i P m, and-false))
            ∙ any_same _ _ P (λ i m. rw (a.at i (omega arith), lt-ltb i P m)) in
            b.at x l ∙ rw (add-one, same);
      }

  -- all edges
  pub all_edges : (k i r : ℕ) → i ≤ k → k ≤ i → SetOf (leads_back rows P s i) r → SetOf (leads_back rows P s k) r
  all_edges k i r h g t = rw (le_antisymm h g) at t

  -- whether s is in the set is whether the edges lead back to it
  pub led_back : (k r : ℕ) (b : Bool) → P ≤ 16 → s < P → SetOf (leads_back rows P s k) r → b ≡ in_set r s → b ≡ walks (arrow rows) P s k s
  unfolding leads_back
  led_back k r b h l t e = e ∙ t.at s (omega arith) ∙ rw (lt-ltb s P l)

-- the fewest edges, found by trying 1, 2, ..
module _ (leads : ℕ → ℕ → Bool) (P s : ℕ) where
  -- l + 1 edges lead from s back to it
  abbrev pub closing : ℕ → Bool
  closing l = walks leads P s (suc l) s

  pub closing_is : (l : ℕ) (b t : Bool) → b ≡ walks leads P s (l + 1) s → b ≡ t → closing l ≡ t
  closing_is l b t e h = rw (← add-one l) (sym e ∙ h)

  pub round_found : (l : ℕ) → l < P → NoneOf closing l → closing l ≡ true → NamesBelow P (round_of leads P s) (Some l)
  unfolding round_of
  round_found l h none e = let q : l ≡ first_with closing P = sought closing P l h none e in (q, rw (← q) h)

  pub round_none : (l : ℕ) → l ≤ P → P ≤ l → NoneOf closing l → NamesBelow P (round_of leads P s) None
  unfolding round_of
  round_none l h g none = let q : P ≡ first_with closing P = not_there closing P l h g none in omega arith

  pub round_closes : (l : ℕ) → l ≡ round_of leads P s → l < P → closing l ≡ true
  unfolding round_of
  round_closes l e h = rw e (first_at closing P (rw e at h))

-- the lowest process, found by trying 0, 1, ..
module _ (leads : ℕ → ℕ → Bool) (P : ℕ) where
  abbrev pub on_chain : ℕ → Bool
  on_chain s = ltb (round_of leads P s) P

  pub on_chain_lem : (s l : ℕ) → l ≡ round_of leads P s → l < P → on_chain s ≡ true
  on_chain_lem s l e h = lt-ltb _ P (rw e at h)

  pub off_chain : (s l : ℕ) → l ≡ round_of leads P s → P ≤ l → on_chain s ≡ false
  off_chain s l e h = le-ltb _ P (rw e at h)

  pub chain_found : (s l : ℕ) → s < P → NoneOf on_chain s → l ≡ round_of leads P s → l < P → chain_from leads P s (suc l) s ≡ chain_of leads P
  unfolding chain_of lowest_on
  chain_found s l h none e g =
      let low : s ≡ first_with on_chain P = sought on_chain P s h none (on_chain_lem s l e g) in
      rw (← low, lt-ltb s P h, e)

  pub chain_none : (s : ℕ) → s ≤ P → P ≤ s → NoneOf on_chain s → [] ≡ chain_of leads P
  unfolding chain_of lowest_on
  chain_none s h g none =
      let low : P ≡ first_with on_chain P = not_there on_chain P s h g none in
      rw (← low, le-ltb P P (omega arith))

  pub returned : (c : Chain) (xs : List ℕ) → xs ≡ chain_of leads P → IsChain xs c → Returned leads P (Some c)
  returned c xs e h =
      let a : Asked leads P xs = subst (Asked leads P) (sym e) (asked leads P) in
      record { processes = xs; holds = h; chain = a; only = λ ys b. unique leads P ys xs b a }

  pub returned_none : (s : ℕ) → s ≤ P → P ≤ s → NoneOf on_chain s → Returned leads P None
  returned_none s h g none =
      let a : Asked leads P [] = subst (Asked leads P) (sym (chain_none s h g none)) (asked leads P) in
      record { processes = []; holds = refl; chain = a; only = λ ys b. unique leads P ys [] b a }

-- the chain, made entry by entry
pub record Made (rows : List ℕ) (P s l : ℕ) (at : List ℕ) (v i : ℕ) : Type 0 where
  pub most : i ≤ l + 1
  pub there : v < P
  pub on : walks (arrow rows) P s (suc l - i) v ≡ true
  pub made : take i at ++ chain_from (arrow rows) P s (suc l - i) v ≡ chain_from (arrow rows) P s (suc l) s
  pub rest : (j : ℕ) → i ≤ j → get_or at j 0 ≡ 0
  pub size : length at ≡ 16

module _ (rows : List ℕ) (P s l : ℕ) (h : Closes rows P s l) where
  pub made_none : Made rows P s l (replicate 16 0) s 0
  made_none = record {
    most = omega arith;
    there = h.there;
    on = rw (sub-zero (suc l)) h.round;
    made = rw (sub-zero (suc l));
    rest = λ j g. zeros 16 j;
    size = refl;
  }

  -- the number found is the next of the chain
  next_is : (k v set r : ℕ) → SetOf (leads_back rows P s k) set → r ≡ first_with (λ w. in_set (get_or rows v 0) w && in_set set w) P → r ≡ next_on (arrow rows) P s k v
  unfolding next_on leads_back
  next_is k v set r t e = e ∙ first_same _ _ P (λ w g. rw (t.at w (omega (arith, h.few)), lt-ltb w P g))

  pub made_next : (at : List ℕ) (v i set r : ℕ) → i ≤ l → Made rows P s l at v i → SetOf (leads_back rows P s (l - i)) set
      → r ≡ first_with (λ w. in_set (get_or rows v 0) w && in_set set w) P → Made rows P s l (set_at at i v) r (i + 1)
  unfolding chain_from
  made_next at v i set r g m t e =
      let leads : ℕ → ℕ → Bool = arrow rows in
      let a : suc l - i ≡ suc (l - i) = omega arith in
      let b : suc l - (i + 1) ≡ l - i = omega arith in
      let q : r ≡ next_on leads P s (l - i) v = next_is (l - i) v set r t e in
      let on : walks leads P s (suc (l - i)) v ≡ true = rw a at m.on in
      let put : take (i + 1) (set_at at i v) ≡ take i at ++ (v ∷ []) = rw add-one (take-suc-set at i v (omega (arith, m.size, h.few, h.within))) in
      record {
        most = omega arith;
        there = rw q (next_there leads P s h.there (l - i) v on);
        on = rw (b, q) (next_walks leads P s h.there (l - i) v on);
        made = rw (put, b, q, append_assoc) (rw a at m.made);
        rest = λ j k. get_or-set_other at i j v 0 (λ same. omega arith) ∙ m.rest j (omega arith);
        size = length-set at i v ∙ m.size;
      }

  pub made_all : (at : List ℕ) (v i : ℕ) → l + 1 ≤ i → Made rows P s l at v i → IsChain (chain_from (arrow rows) P s (suc l) s) (record { at = at; len = l + 1 })
  unfolding chain_from
  made_all at v i g m =
      let n : i ≡ l + 1 = omega (arith, m.most) in
      let a : suc l - i ≡ 0 = omega arith in
      let made : take i at ≡ chain_from (arrow rows) P s (suc l) s = sym (append-nil (take i at)) ∙ (rw a at m.made) in
      record {
        long = m.size;
        some = omega arith;
        few = omega (arith, h.few, h.within);
        list = subst (λ k. take k at ≡ chain_from (arrow rows) P s (suc l) s) n made;
        rest = λ j k. m.rest j (omega arith);
      }
