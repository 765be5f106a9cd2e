-- Sets of processes: tests over their members, and the configuration once each has run one statement. Assumes nothing.
use mathlib.Core.Path.{◌≡◌, refl, ◌∙◌}
use mathlib.Core.Bool.{Bool, true, false, not, ◌&&◌}
use Prim.Native.Nat.{ℕ, zero, suc, ◌+◌, ◌-◌, ◌≤◌, ◌<◌}
use native.Mathlib.Nat.{add-zero}
use native.Mathlib.Numerals.{add-one}
use native.Mathlib.Omega.{arith}
use borrow.Author.Tests.{leb-false, not-false}
use lib.Dec.{leb}
use lib.ListN.{length}
use Rattle.base.specs.Below.{all_below, sum_below}
use Rattle.base.proofs.Below.{all_at, any_none, any_same}
use Rattle.base.proofs.Cases.{either_way}
use Rattle.sets.specs.Sets.{in_set}
use Rattle.blocks.specs.Records.{Model}
use Rattle.rules.specs.Configuration.{Configuration}
use Rattle.rules.specs.Statements.{stepped}
use Rattle.rules.specs.Orders.{is_ready, set_bits, some_member, members_below, stepped_below}
use Rattle.rules.proofs.Picks.{standing_stays}

-- 65,535 has each process
pub all_in : (p : ℕ) → p < set_bits → in_set 65535 p ≡ true
unfolding in_set all_below
all_in p h = all_at (in_set 65535) set_bits p h refl

-- where no member passes a test
pub no_member : (f : ℕ → Bool) (set : ℕ) → some_member f set ≡ false → (p : ℕ) → p < set_bits → in_set set p ≡ true → f p ≡ false
unfolding some_member
no_member f set none p h m = rw m at (any_none (λ p. in_set set p && f p) set_bits none p h)

-- tests that agree on each member
pub members_same : (f g : ℕ → Bool) (set : ℕ) → ((p : ℕ) → p < set_bits → in_set set p ≡ true → f p ≡ g p) → some_member f set ≡ some_member g set
unfolding some_member
members_same f g set same =
    any_same (λ p. in_set set p && f p) (λ p. in_set set p && g p) set_bits
    (λ p h. either_way (in_set set p) (λ m. rw (m, same p h m)) (λ m. rw m))

-- each process of the set is there and ready
abbrev pub Chosen : Model → ℕ → Configuration → Type 0
Chosen M set c = (p : ℕ) → p < set_bits → in_set set p ≡ true → (p < length M.processes) × (is_ready p c ≡ true)

pub chosen : (M : Model) (set : ℕ) (c : Configuration) → some_member (leb (length M.processes)) set ≡ false
    → some_member (λ p. not (is_ready p c)) set ≡ false → Chosen M set c
chosen M set c there ready p h m = (leb-false _ _ (no_member _ set there p h m), not-false _ (no_member (λ p. not (is_ready p c)) set ready p h m))

module _ (set n : ℕ) where
  pub members_more : in_set set n ≡ true → members_below set (n + 1) ≡ members_below set n + 1
  unfolding members_below sum_below
  members_more m = rw (add-one, m)

  pub members_stay : in_set set n ≡ false → members_below set (n + 1) ≡ members_below set n
  unfolding members_below sum_below
  members_stay m = rw (add-one, m) (add-zero _)

pub members_none : (set : ℕ) → members_below set 0 ≡ 0
unfolding members_below sum_below
members_none set = refl

pub members_most : (set n : ℕ) → members_below set n ≤ n
members_most set zero = rw (members_none set) (omega arith)
members_most set (suc n) =
    let few = members_most set n in
    rw (← add-one n)
    (either_way (in_set set n) (λ m. rw (members_more set n m) (omega arith)) (λ m. rw (members_stay set n m) (omega arith)))

module _ (M : Model) (set : ℕ) (c : Configuration) where
  pub stepped_none : stepped_below M set 0 c ≡ c
  unfolding stepped_below
  stepped_none = refl

  pub stepped_more : (n : ℕ) → in_set set n ≡ true → stepped_below M set (n + 1) c ≡ stepped M n (stepped_below M set n c)
  unfolding stepped_below
  stepped_more n m = rw (add-one, m)

  pub stepped_stay : (n : ℕ) → in_set set n ≡ false → stepped_below M set (n + 1) c ≡ stepped_below M set n c
  unfolding stepped_below
  stepped_stay n m = rw (add-one, m)

  -- those that have not run yet stand as before
  pub later_stay : (n p : ℕ) → n ≤ p → is_ready p (stepped_below M set n c) ≡ is_ready p c
  later_stay zero p h = rw stepped_none
  later_stay (suc n) p h =
      rw (← add-one n)
      (either_way (in_set set n)
      (λ m. rw (stepped_more n m) (standing_stays M n p (stepped_below M set n c) (λ e. omega arith) ∙ later_stay n p (omega arith)))
      (λ m. rw (stepped_stay n m) (later_stay n p (omega arith))))

  -- what each pick of a member keeps, from c on
  pub by_members : Chosen M set c → (P : ℕ → Configuration → Type 0) → P 0 c
      → ((n : ℕ) (d : Configuration) → in_set set n ≡ true → n < length M.processes → is_ready n d ≡ true → P n d → P (n + 1) (stepped M n d))
      → ((n : ℕ) (d : Configuration) → in_set set n ≡ false → P n d → P (n + 1) d)
      → (n : ℕ) → n ≤ set_bits → P n (stepped_below M set n c)
  by_members all P start more stay zero h = rw stepped_none start
  by_members all P start more stay (suc n) h =
      let before = by_members all P start more stay n (omega arith) in
      rw (← add-one n)
      (either_way (in_set set n)
      (λ m. let (there, ready) = all n (omega arith) m in
      rw (stepped_more n m) (more n (stepped_below M set n c) m there (later_stay n n (omega arith) ∙ ready) before))
      (λ m. rw (stepped_stay n m) (stay n (stepped_below M set n c) m before)))

  -- no member is at n or above
  module _ (n : ℕ) (none : (p : ℕ) → n ≤ p → p < set_bits → in_set set p ≡ false) where
    rest : (k : ℕ) → n + k ≤ set_bits → (stepped_below M set (n + k) c ≡ stepped_below M set n c) × (members_below set (n + k) ≡ members_below set n)
    rest zero h = rw (add-zero n) (refl, refl)
    rest (suc k) h =
        let e : n + suc k ≡ (n + k) + 1 = omega arith in
        let m = none (n + k) (omega arith) (omega arith) in
        let more = rest k (omega arith) in
        rw (e, stepped_stay (n + k) m, members_stay set (n + k) m) more

    pub none_above : n ≤ set_bits → (stepped_below M set set_bits c ≡ stepped_below M set n c) × (members_below set set_bits ≡ members_below set n)
    none_above h = let e : n + (16 - n) ≡ set_bits = omega arith in rw e at (rest (16 - n) (omega arith))
