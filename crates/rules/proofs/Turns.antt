-- The turns of the loop behind pick, settle and pick of a set, and what they come to for each. Assumes nothing.
use mathlib.Core.Path.{◌≡◌, refl, sym, ◌∙◌}
use mathlib.Core.Bool.{Bool, true, false, true≢false, ◌&&◌}
use mathlib.Core.Logic.{⊎_elim}
use Prim.Native.Nat.{ℕ, zero, suc, ◌+◌, ◌-◌, ◌≤◌, ◌<◌}
use native.Mathlib.Numerals.{add-one}
use native.Mathlib.Omega.{arith}
use lib.Dec.{ltb}
use lib.ListN.{length}
use borrow.Author.Count.{below_more}
use borrow.Author.Tests.{lt-ltb, le-ltb}
use Rattle.base.proofs.Below.{split}
use Rattle.base.proofs.Cases.{either_way}
use Rattle.base.proofs.Course.{first_found, first_none}
use Rattle.sets.specs.Sets.{in_set}
use Rattle.blocks.specs.Records.{Model}
use Rattle.rules.specs.Configuration.{Configuration}
use Rattle.rules.specs.Statements.{stepped}
use Rattle.rules.specs.Orders.{Settled, is_ready, lowest_ready, settled_from, set_bits, members_below, stepped_below}
use Rattle.rules.proofs.Picks.{standing_stays}
use Rattle.rules.proofs.Sets.{Chosen, all_in, members_more, members_stay, members_none, members_most, stepped_none, stepped_more, stepped_stay, later_stay}

-- `Turned p n c s`: from process p on, with n picks made, the loop goes from c to s. It picks the ready processes of the set that are
-- below end, at most count times, and goes on behind a pick by the stride.
module _ (M : Model) (set stride count end : ℕ) where
  pub data Turned : ℕ → ℕ → Configuration → Settled → Type 0 where
    over : {p n : ℕ} {c : Configuration} → (ltb n count && ltb p end) ≡ false → Turned p n c (record { picks = n; end = c })
    past : {p n : ℕ} {c : Configuration} {s : Settled} → n < count → p < end → (is_ready p c && in_set set p) ≡ false
        → Turned (p + 1) n c s → Turned p n c s
    next : {p n : ℕ} {c : Configuration} {s : Settled} → n < count → p < end → is_ready p c ≡ true → in_set set p ≡ true
        → Turned (p + stride) (n + 1) (stepped M p c) s → Turned p n c s

-- a member that is passed is not ready
not_ready : (a b : Bool) → (a && b) ≡ false → b ≡ true → a ≡ false
not_ready true b idle m = sym m ∙ idle
not_ready false b idle m = refl

-- the loop is not over while there are picks and processes left
goes_on : (n count p end : ℕ) → n < count → p < end → (ltb n count && ltb p end) ≡ false → ⊥
goes_on n count p end few there o = true≢false (sym (lt-ltb p end there) ∙ rw (lt-ltb n count few) at o)

-- as many picks are made as may be: the loop is over
pub turned_over : {M : Model} {set stride count end p n : ℕ} {c : Configuration} {s : Settled} → Turned M set stride count end p n c s → count ≤ n
    → s ≡ record { picks = n; end = c }
turned_over (over o) h = refl
turned_over (past few there idle t) h = absurd (omega arith)
turned_over (next few there ready m t) h = absurd (omega arith)

-- one pick, of a process that is ready
pub turned_one : {M : Model} {set stride end p : ℕ} {c : Configuration} {s : Settled} → Turned M set stride 1 end p 0 c s
    → p < end → is_ready p c ≡ true → in_set set p ≡ true → s ≡ record { picks = 1; end = stepped M p c }
turned_one {end = end} {p = p} (over o) there ready m = absurd (goes_on 0 1 p end (omega arith) there o)
turned_one (past few h idle t) there ready m = absurd (true≢false (sym m ∙ rw ready at idle))
turned_one (next few h r i t) there ready m = turned_over t (omega arith)

-- a settle: the set has each process, and a process that was picked may be picked again
module _ (M : Model) (few : length M.processes ≤ set_bits) where
  -- no process below p is ready
  abbrev Passed : ℕ → Configuration → Type 0
  Passed p c = (j : ℕ) → j < p → is_ready j c ≡ false

  module _ (k : ℕ) (c : Configuration) where
    settled_over : (n : ℕ) → n ≡ 0 → settled_from M k n c ≡ record { picks = k; end = c }
    unfolding settled_from
    settled_over n e = rw e

    settled_passed : (n : ℕ) → Passed (length M.processes) c → settled_from M k n c ≡ record { picks = k; end = c }
    unfolding settled_from lowest_ready
    settled_passed zero f = refl
    settled_passed (suc n) f = rw (first_none (λ p. is_ready p c) (length M.processes) f, le-ltb (length M.processes) (length M.processes) (omega arith))

    settled_next : (n p : ℕ) → p < length M.processes → Passed p c → is_ready p c ≡ true
        → settled_from M k (suc n) c ≡ settled_from M (k + 1) n (stepped M p c)
    unfolding settled_from lowest_ready
    settled_next n p h f t = rw (first_found (λ p. is_ready p c) (length M.processes) p h f t, lt-ltb p (length M.processes) h, add-one)

  turned_from : (count : ℕ) {p n : ℕ} {c : Configuration} {s : Settled} → Turned M 65535 0 count (length M.processes) p n c s
      → n ≤ count → Passed p c → s ≡ settled_from M n (count - n) c
  turned_from count {p} {n} {c} (over o) h f =
      sym
      (⊎_elim
      (λ (l : n < count). settled_passed n c (count - n) (λ j b.
      f j (⊎_elim (λ (k : p < length M.processes). absurd (goes_on n count p (length M.processes) l k o)) (λ (k : length M.processes ≤ p). omega arith) (split p (length M.processes)))))
      (λ (l : count ≤ n). settled_over n c (count - n) (omega arith))
      (split n count))
  turned_from count {p} {n} {c} (past l there idle t) h f =
      turned_from count t h (below_more _ _ f (not_ready (is_ready p c) (in_set 65535 p) idle (all_in p (omega (arith, few)))))
  turned_from count {p} {n} {c} (next l there ready m t) h f =
      let e : count - n ≡ suc (count - (n + 1)) = omega arith in
      let d = turned_from count t (omega arith) (λ j b. standing_stays M p j c (λ q. omega arith) ∙ f j (omega arith)) in
      rw e (d ∙ sym (settled_next n c (count - (n + 1)) p there f ready))

  pub turned_settled : (count : ℕ) {c : Configuration} {s : Settled} → Turned M 65535 0 count (length M.processes) 0 0 c s
      → s ≡ settled_from M 0 count c
  turned_settled count {c} t = let e : count - 0 ≡ count = omega arith in rw e at (turned_from count t (omega arith) (λ j b. absurd (omega arith)))

-- a pick of a set: each of its processes is ready, and picked once
module _ (M : Model) (set end : ℕ) (c₀ : Configuration) (all : Chosen M set c₀) (few : end ≤ set_bits) where
  set_from : {p n : ℕ} {c : Configuration} {s : Settled} → Turned M set 1 set_bits end p n c s
      → p ≤ end → n ≡ members_below set p → c ≡ stepped_below M set p c₀ → s ≡ record { picks = members_below set end; end = stepped_below M set end c₀ }
  set_from {p} {n} {c} (over o) h e d =
      let l : p ≡ end = ⊎_elim (λ (k : p < end). absurd (goes_on n set_bits p end (omega (arith, members_most set p)) k o)) (λ (k : end ≤ p). omega arith) (split p end) in
      rw (e, d, l)
  set_from {p} {n} {c} (past l there idle t) h e d =
      let ready : in_set set p ≡ true → is_ready p c ≡ true = λ m. rw d (later_stay M set c₀ p p (omega arith) ∙ (all p (omega arith) m).1) in
      let out : in_set set p ≡ false = either_way (in_set set p) (λ m. absurd (true≢false (sym (ready m) ∙ not_ready (is_ready p c) (in_set set p) idle m))) (λ m. m) in
      set_from t (omega arith) (e ∙ sym (members_stay set p out)) (d ∙ sym (stepped_stay M set c₀ p out))
  set_from {p} {n} {c} (next l there ready m t) h e d =
      set_from t (omega arith) (rw (members_more set p m, e)) (rw (stepped_more M set c₀ p m, d))

  pub turned_set : {s : Settled} → Turned M set 1 set_bits end 0 0 c₀ s → s ≡ record { picks = members_below set end; end = stepped_below M set end c₀ }
  turned_set t = set_from t (omega arith) (sym (members_none set)) (sym (stepped_none M set c₀))
