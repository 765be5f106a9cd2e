-- Picks of sets: the set's processes in rising order are one arrangement, and all arrangements come to one end (`determinacy`).
-- Assumes nothing.
use mathlib.Core.Path.{◌≡◌, refl, sym, ap, ◌∙◌}
use mathlib.Core.Bool.{true, true≢false, ◌&&◌}
use mathlib.Core.Logic.{◌≢◌, ⊎_elim}
use mathlib.Core.List.{List, [], ◌∷◌}
use Prim.Native.Nat.{ℕ, zero, suc, ◌+◌, ◌≤◌, ◌<◌}
use native.Mathlib.Decide.{ℕ_discrete}
use native.Mathlib.Numerals.{add-one}
use native.Mathlib.Omega.{arith}
use borrow.Author.Tests.{eq-eqb, ne_eqb, lt-ltb, le-ltb, ltb-true}
use lib.Dec.{eqb, ltb}
use lib.ListN.{length, length-append}
use Rattle.base.specs.Below.{any_below, sum_below, join_below}
use Rattle.base.specs.Cases.{◌∣◌, ◌⇒◌}
use Rattle.base.proofs.Below.{split, and_left, and_right, join_none, join_more}
use Rattle.base.proofs.Cases.{either_way}
use Rattle.sets.specs.Sets.{in_set}
use Rattle.determinacy.specs.Arrangements.{occurrences, Arranges, steps_of, CanStep}
use Rattle.determinacy.proofs.Arranged.{occurrences_append, steps_append, arranged as by-arranging}
use Rattle.blocks.specs.Records.{Model, model_of}
use Rattle.model.specs.Facts.{Facts}
use Rattle.model.proofs.Facts.{facts}
use Rattle.model.proofs.Rules.{accepted}
use Rattle.rules.specs.Configuration.{Configuration, first}
use Rattle.rules.specs.Invariant.{Reachable}
use Rattle.rules.specs.Orders.{Outcome, set_bits, some_member, members_below, stepped_below, set_done, picked_set, picked}
use Rattle.rules.proofs.FirstReachable.{first_reachable}
use Rattle.rules.proofs.Outcomes.{Pick, pick_refused, pick_done_lem, pick_is, pick_of_ready, PickSet, set_refused, set_done_lem, pick_set_is}
use Rattle.rules.proofs.Sets.{Chosen, members_none, members_more, members_stay, members_most, by_members}
use Rattle.session.specs.Lists.{order, is_known, performed, played_by, played, after}
use Rattle.session.specs.Demand3.{picks_of, kernel_of}
use Rattle.session.specs.SetLaws.{member, set_order, single_picks, SameEnd, SetLaws}
use Rattle.session.proofs.Answers.{picks_word}
use Rattle.session.proofs.Demand3.{laws, sound}
use Rattle.session.proofs.InTime.{played_reachable}

-- the processes of a set that are below n, in rising order
module _ (set : ℕ) where
  abbrev here : ℕ → List ℕ
  here p = in_set set p ⇒ p ∷ [] ∣ []

  abbrev rising : ℕ → List ℕ
  rising n = join_below here n

  here_same : (n : ℕ) → occurrences n (here n) ≡ (in_set set n ⇒ 1 ∣ 0)
  here_same n = either_way (in_set set n) (λ m. rw (m, eq-eqb n n refl)) (λ m. rw m)

  here_other : (n p : ℕ) → p ≢ n → occurrences p (here n) ≡ 0
  here_other n p other = either_way (in_set set n) (λ m. rw (m, ne_eqb p n other)) (λ m. rw m)

  -- each once
  rising_arranges : (n p : ℕ) → occurrences p (rising n) ≡ (ltb p n && in_set set p ⇒ 1 ∣ 0)
  rising_arranges zero p = rw (join_none here, le-ltb p 0 (omega arith))
  rising_arranges (suc n) p =
      rw (← add-one n, join_more here n, occurrences_append p (rising n) (here n), rising_arranges n p)
      (elim (ℕ_discrete p n) [
        | yes e ↦ rw (e, le-ltb n n (omega arith), lt-ltb n (n + 1) (omega arith), here_same n) (omega arith)
        | no other ↦
            ⊎_elim
            (λ (h : p < n). rw (lt-ltb p n h, lt-ltb p (n + 1) (omega arith), here_other n p other) (omega arith))
            (λ (h : n ≤ p). rw (le-ltb p n h, le-ltb p (n + 1) (omega arith), here_other n p other) (omega arith))
            (split p n)
      ])

  rising_many : (n : ℕ) → length (rising n) ≡ members_below set n
  rising_many zero = rw (join_none here, members_none set)
  rising_many (suc n) =
      rw (← add-one n, join_more here n, length-append, rising_many n)
      (either_way (in_set set n) (λ m. rw (m, members_more set n m)) (λ m. rw (m, members_stay set n m) (omega arith)))

-- a set whose processes are there and ready
module _ (M : Model) (set : ℕ) (c : Configuration) (all : Chosen M set c) where
  rising_ends : (n : ℕ) → n ≤ set_bits → steps_of (kernel_of M) (rising set n) c ≡ stepped_below M set n c
  rising_ends =
      by_members M set c all (λ n d. steps_of (kernel_of M) (rising set n) c ≡ d) (rw (join_none (here set)))
      (λ n d m there ready before.
      rw (join_more (here set) n, steps_append (kernel_of M) (rising set n) (here set n) c, before, m) (ap (λ (o : Outcome). o.after) (pick_of_ready M d n there ready)))
      (λ n d m before. rw (join_more (here set) n, steps_append (kernel_of M) (rising set n) (here set n) c, before, m))

  member_ready : (p : ℕ) → member set p ≡ true → (kernel_of M).ready p c ≡ true
  member_ready p m =
      let (there, ready) = all p (ltb-true p set_bits (and_left (ltb p set_bits) (in_set set p) m)) (and_right (ltb p set_bits) (in_set set p) m) in
      rw (pick_of_ready M c p there ready)

-- single picks that can be done
module _ (M : Model) where
  made_by : (p : ℕ) (c : Configuration) {r : Outcome} → Pick M c p r → eqb r.refusal 0 ≡ true → r.picks ≡ 1
  made_by p c (pick_refused n h) done = absurd (true≢false (sym done ∙ ne_eqb n 0 (λ z. omega arith)))
  made_by p c (pick_done_lem there ready) done = refl

  one_pick : (p : ℕ) (c : Configuration) → performed M (order 1 p 0) c ≡ picked M p c
  unfolding performed is_known
  one_pick p c = refl

  singles : (ps : List ℕ) (c : Configuration) → CanStep (kernel_of M) ps c
      → ((played M (single_picks ps) c).end ≡ steps_of (kernel_of M) ps c) × (picks_of (played M (single_picks ps) c).answers ≡ length ps)
  unfolding played_by picks_of
  singles [] c can = (refl, refl)
  singles (p ∷ ps) c (ready, can) =
      let (end, picks) = singles ps (picked M p c).after can in
      let one = made_by p c (pick_is M c p) ready in
      rw (one_pick p c) (end, rw (picks_word (picked M p c) (omega arith), one, picks) (omega arith))

-- the set's order alone
set_alone : (M : Model) (set : ℕ) (c : Configuration) → performed M (set_order set) c ≡ picked_set M set c
unfolding performed is_known
set_alone M set c = refl

module _ (M : Model) (fs : Facts M) (c : Configuration) (r : Reachable M c) (set : ℕ) (ps : List ℕ) (a : Arranges (member set) ps) where
  same_end : (o : Outcome) → performed M (set_order set) c ≡ o → PickSet M c set o → o.refusal ≡ 0 → SameEnd M c (single_picks ps) (set_order set ∷ [])
  unfolding played_by picks_of
  same_end o e (set_refused n h) done = absurd (omega arith)
  same_end o e (set_done_lem all) done =
      let same = by-arranging (kernel_of M) (laws M fs) (member set) c (sound M fs c r) (member_ready M set c all) (rising set set_bits) ps (rising_arranges set set_bits) a in
      let (end, picks) = singles M ps c same.can in
      record {
        end = rw e (end ∙ same.end ∙ rising_ends M set c all set_bits (omega arith));
        picks = rw e (picks ∙ same.many ∙ rising_many set set_bits ∙ rw (picks_word (set_done set (stepped_below M set set_bits c)) (omega (arith, members_most set set_bits))) (omega arith));
      }

-- "The empty set is done with 0 picks."
empty_set : (M : Model) (c : Configuration) → performed M (set_order 0) c ≡ record { refusal = 0; byte = 0; picks = 0; value = 0; after = c }
unfolding performed is_known picked_set some_member any_below in_set members_below sum_below stepped_below
empty_set M c = refl

pub set_laws : SetLaws
set_laws =
    record {
      empty_set = empty_set;
      arranged = λ m h os set ps a done.
          let M = model_of m in
          let fs = facts M (accepted m h) in
          let c = after M os in
          let r = played_reachable M fs os (first M) (first_reachable M fs) in
          same_end M fs c r set ps a (performed M (set_order set) c) refl (rw (set_alone M set c) (pick_set_is M c set)) done;
    }
