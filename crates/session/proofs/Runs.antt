-- Every list of orders plays a run of picks and advances, as many as its answers say.
-- Assumes nothing.
use mathlib.Core.Path.{◌≡◌, refl, sym, ◌∙◌}
use mathlib.Core.Bool.{Bool, true, false, not, ◌||◌}
use mathlib.Core.List.{List, [], ◌∷◌}
use Prim.Native.Nat.{ℕ, zero, suc, ◌+◌, ◌≤◌, ◌<◌}
use native.Mathlib.Nat.{add-zero, zero-add, add-suc, suc-add}
use native.Mathlib.Omega.{arith}
use borrow.Author.Tests.{eqb-true, ne_eqb, ltb-true}
use lib.Dec.{eqb, ltb}
use lib.ListN.{length}
use Rattle.base.specs.Cases.{◌∣◌, ◌⇒◌}
use Rattle.base.proofs.Below.{and_true_false}
use Rattle.base.proofs.Cases.{by_test}
use Rattle.base.proofs.Course.{first_at}
use Rattle.determinacy.proofs.Run.{Run, stay, by_pick, by_advance, join}
use Rattle.blocks.specs.Records.{Model}
use Rattle.rules.specs.Configuration.{Configuration}
use Rattle.rules.specs.Statements.{stepped}
use Rattle.rules.specs.Orders.{Outcome, refused, is_ready, delta_stepped, time_stepped, lowest_ready, Settled, settled_from, settled, set_bits, members_below, stepped_below}
use Rattle.rules.proofs.Outcomes.{Refusal, Pick, pick_refused, pick_done_lem, pick_is, pick_of_ready, Delta, delta_refused, delta_done, delta_is, Time, time_refused, time_done, time_is, one_step, PickSet, set_refused, set_done_lem, pick_set_is, Read, read_refused, read_done, read_is}
use Rattle.rules.proofs.Sets.{Chosen, members_none, members_more, members_stay, members_most, by_members}
use Rattle.session.specs.Lists.{Order, is_known, answer_of, performed, played_by, played}
use Rattle.session.specs.Demand3.{picks_of, is_advance, advances_of, kernel_of}
use Rattle.session.proofs.Answers.{Small, refusal_byte, picks_word}

module _ (M : Model) where
  -- a run that leads to what an order comes to, by a advances
  abbrev Ran : Configuration → ℕ → Outcome → Type 0
  Ran c a r = Run (kernel_of M) c a r.picks r.after

  -- a pick of a ready process is a step
  pub pick_run : (p : ℕ) (c : Configuration) → p < length M.processes → is_ready p c ≡ true → {n : ℕ} {e : Configuration}
      → Run (kernel_of M) (stepped M p c) 0 n e → Run (kernel_of M) c 0 (suc n) e
  pick_run p c there ready {n} {e} r =
      let done = pick_of_ready M c p there ready in
      let can : (kernel_of M).ready p c ≡ true = rw done in
      let rest : Run (kernel_of M) ((kernel_of M).step p c) 0 n e = rw done r in
      by_pick p can rest

  -- a done delta step is an advance, and so is a done time step
  record Advances (c : Configuration) (r : Outcome) : Type 0 where
    can : (kernel_of M).can_advance c ≡ true
    to : (kernel_of M).advanced c ≡ r.after

  delta_advances : (c : Configuration) → eqb (delta_stepped M c).refusal 0 ≡ true → Advances c (delta_stepped M c)
  delta_advances c done = record { can = rw done; to = rw done }

  time_advances : (c : Configuration) → eqb (time_stepped M c).refusal 0 ≡ true → Advances c (time_stepped M c)
  time_advances c done = let no = one_step M c done in record { can = rw (no, done); to = rw no }

  advance_run : (c : Configuration) (r : Outcome) → Advances c r → r.picks ≡ 0 → Ran c 1 r
  advance_run c r a none =
      let rest : Run (kernel_of M) ((kernel_of M).advanced c) 0 0 r.after = rw a.to stay in
      rw none (by_advance a.can rest)

  -- what a settle comes to, k picks having been made: m more, at most n
  pub record Settles (k n : ℕ) (c : Configuration) (s : Settled) : Type 0 where
    pub more : ℕ
    pub picks : s.picks ≡ k + more
    pub most : more ≤ n
    pub run : Run (kernel_of M) c 0 more s.end

  pub settles : (n k : ℕ) (c : Configuration) → Settles k n c (settled_from M k n c)
  unfolding settled_from lowest_ready
  settles zero k c = record { more = 0; picks = sym (add-zero k); most = omega arith; run = stay }
  settles (suc n) k c =
      by_test (Settles k (suc n) c) (ltb (lowest_ready M c) (length M.processes)) _ _
      (λ there.
      let s = settles n (suc k) (stepped M (lowest_ready M c) c) in
      let below = ltb-true _ _ there in
      record {
        more = suc s.more;
        picks = s.picks ∙ suc-add k s.more ∙ sym (add-suc k s.more);
        most = omega arith;
        run = pick_run (lowest_ready M c) c below (first_at (λ p. is_ready p c) (length M.processes) below) s.run;
      })
      (λ none. record { more = 0; picks = sym (add-zero k); most = omega arith; run = stay })

  -- what an order that comes to r does to a configuration: a run by a advances, and what its answer can say
  record Does (c : Configuration) (a : ℕ) (r : Outcome) : Type 0 where
    run : Ran c a r
    picks : r.picks < 65536
    refusal : r.refusal < 256

  refusal_does : (c : Configuration) (n : ℕ) → Refusal n → Does c 0 (refused n c)
  refusal_does c n h = record { run = stay; picks = omega arith; refusal = omega arith }

  pick_does : (p : ℕ) (c : Configuration) {r : Outcome} → Pick M c p r → Does c 0 r
  pick_does p c (pick_refused n h) = refusal_does c n h
  pick_does p c (pick_done_lem there ready) = record { run = pick_run p c there ready stay; picks = omega arith; refusal = omega arith }

  read_does : (s : ℕ) (c : Configuration) {r : Outcome} → Read M c s r → Does c 0 r
  read_does s c (read_refused n h) = refusal_does c n h
  read_does s c (read_done there) = record { run = stay; picks = omega arith; refusal = omega arith }

  settle_does : (n : ℕ) (c : Configuration) → n < 65536 → Does c 0 (settled M n c)
  unfolding settled
  settle_does n c h =
      let s = settles n 0 c in
      let same : (settled_from M 0 n c).picks ≡ s.more = s.picks ∙ zero-add s.more in
      record { run = rw same s.run; picks = omega arith; refusal = omega arith }

  -- the processes of a set that are below n, the lowest first
  pub members_run : (set : ℕ) (c : Configuration) → Chosen M set c → (n : ℕ) → n ≤ set_bits → Run (kernel_of M) c 0 (members_below set n) (stepped_below M set n c)
  members_run set c all =
      by_members M set c all (λ n d. Run (kernel_of M) c 0 (members_below set n) d) (rw (members_none set) stay)
      (λ n d m there ready before. rw (members_more set n m) (join (kernel_of M) before (pick_run n d there ready stay)))
      (λ n d m before. rw (members_stay set n m) before)

  set_does : (set : ℕ) (c : Configuration) {r : Outcome} → PickSet M c set r → Does c 0 r
  set_does set c (set_refused n h) = refusal_does c n h
  set_does set c (set_done_lem all) =
      record { run = members_run set c all set_bits (omega arith); picks = omega (arith, members_most set set_bits); refusal = omega arith }

  -- a step is an advance where it is done
  abbrev Steps : Configuration → Outcome → Type 0
  Steps c r = Does c (eqb r.refusal 0 ⇒ 1 ∣ 0) r

  refusal_steps : (c : Configuration) (n : ℕ) → Refusal n → Steps c (refused n c)
  refusal_steps c n h = rw (ne_eqb n 0 (λ z. omega arith)) (refusal_does c n h)

  delta_does : (c : Configuration) (r : Outcome) → (eqb r.refusal 0 ≡ true → Advances c r) → Delta M c r → Steps c r
  delta_does c r a (delta_refused n h) = refusal_steps c n h
  delta_does c r a (delta_done quiet running due few) = record { run = advance_run c r (a refl) refl; picks = omega arith; refusal = omega arith }

  time_does : (c : Configuration) (r : Outcome) → (eqb r.refusal 0 ≡ true → Advances c r) → Time M c r → Steps c r
  time_does c r a (time_refused n h) = refusal_steps c n h
  time_does c r a (time_done t quiet due at low) = record { run = advance_run c r (a refl) refl; picks = omega arith; refusal = omega arith }

  -- the same, by as many advances as the answer to order o says
  module _ (o : Order) (c : Configuration) where
    abbrev Counted : Outcome → Type 0
    Counted r = Does c (is_advance o (answer_of r) ⇒ 1 ∣ 0) r

    abbrev steps : Bool
    steps = eqb o.kind 6 || eqb o.kind 7

    -- an order of another kind than 6 and 7 is no advance
    no_advance : {r : Outcome} → steps ≡ false → Does c 0 r → Counted r
    no_advance other d = rw other d

    one_advance : {r : Outcome} → steps ≡ true → Steps c r → Counted r
    one_advance {r} kind d = rw (kind, refusal_byte r d.refusal) d

    -- nor is one that is refused with 11
    unknown : Counted (refused 11 c)
    unknown = rw (refusal_byte (refused 11 c) (omega arith), and_true_false steps false refl) (refusal_does c 11 (omega arith))

    counted : o.count < 65536 → Counted (performed M o c)
    unfolding performed
    counted small =
        by_test Counted (not (is_known o)) _ _ (λ e. unknown)
        (λ e. by_test Counted (eqb o.kind 1) _ _ (λ k. no_advance (rw (eqb-true o.kind 1 k)) (pick_does o.argument c (pick_is M c o.argument)))
        (λ e. by_test Counted (eqb o.kind 3) _ _ (λ k. no_advance (rw (eqb-true o.kind 3 k)) (settle_does o.count c small))
        (λ e. by_test Counted (eqb o.kind 5) _ _ (λ k. no_advance (rw (eqb-true o.kind 5 k)) (set_does o.count c (pick_set_is M c o.count)))
        (λ e. by_test Counted (eqb o.kind 6) _ _ (λ k. one_advance (rw k) (delta_does c (delta_stepped M c) (delta_advances c) (delta_is M c)))
        (λ no6. by_test Counted (eqb o.kind 7) _ _ (λ k. one_advance (rw (no6, k)) (time_does c (time_stepped M c) (time_advances c) (time_is M c)))
        (λ no7. no_advance (rw (no6, no7)) (read_does o.argument c (read_is M c o.argument))))))))

  -- a list of orders, one after the other
  pub played_run : (os : List Order) → Small os → (c : Configuration)
      → Run (kernel_of M) c (advances_of os (played M os c).answers) (picks_of (played M os c).answers) (played M os c).end
  unfolding played_by picks_of advances_of
  played_run [] s c = stay
  played_run (o ∷ os) s c =
      let d = counted o c s.0.count in
      rw (picks_word (performed M o c) d.picks) (join (kernel_of M) d.run (played_run os s.1 (performed M o c).after))
