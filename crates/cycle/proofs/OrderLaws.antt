-- What each return of read and of pick, settle and pick of a set has to show. Assumes nothing.
use mathlib.Core.Path.{◌≡◌, refl, sym, ap, ◌∙◌}
use mathlib.Core.Bool.{Bool, true, false, not}
use mathlib.Core.List.{List}
use Prim.Native.Nat.{ℕ, ◌*◌, ◌≤◌, ◌<◌}
use native.Mathlib.Nat.{add-zero}
use native.Mathlib.Omega.{arith}
use lib.Dec.{eqb, ltb, leb}
use lib.ListN.{length, get_or}
use borrow.Author.Tests.{le-leb, lt-leb, leb-false}
use mathlib.Core.Logic.{⊎_elim}
use Rattle.base.specs.Below.{any_below}
use Rattle.base.proofs.Below.{split, any_same}
use Rattle.base.specs.Cases.{◌∣◌, ◌⇒◌}
use Rattle.base.proofs.Cases.{either_way}
use Rattle.base.proofs.Course.{any_first}
use Rattle.sets.specs.Sets.{in_set}
use Rattle.blocks.specs.Records.{Model}
use Rattle.model.specs.Facts.{Facts}
use Rattle.rules.specs.Configuration.{process_in}
use Rattle.rules.specs.Orders.{Outcome, Settled, refused, is_ready, is_stopped, picked, lowest_ready, settled_from, settled, set_bits, some_member, picked_set, read_of}
use Rattle.rules.proofs.Invariant.{failure_small}
use Rattle.rules.proofs.Sets.{all_in, no_member, members_same, chosen, none_above}
use Rattle.rules.proofs.Turns.{Turned, turned_over, turned_one, turned_settled, turned_set}
use Rattle.members.specs.Members.{ready_in, set_refusal}
use Rattle.cycle.specs.View.{view_of, Valid, outcome_of, Answers, ReadTo, picked_by}
use Rattle.cycle.specs.Turns.{picks_refusal, part_of, turns_of, Tellable, Named, reply_of}
use Rattle.cycle.specs.declared.config.Config.{Config}
use Rattle.cycle.specs.declared.orders.Answer.{Answer}
use Rattle.cycle.specs.declared.orders.Answered.{Answered}
use Rattle.cycle.specs.declared.picks.Turns.{Turns}
use Rattle.cycle.specs.declared.picks.Picks.{Picks}
use Rattle.cycle.specs.declared.picks.Picks.TheVariants.{One, Settle, Set}
use Rattle.cycle.proofs.ViewLaws.{past_in, standing_in, ready_in_lem, fault_in_lem, node_in, nprocesses_is}

pub refused_is : (c : Config) (n : ℕ) → outcome_of (record { answer = record { refusal = n; byte = 0; picks = 0; value = 0 }; config = c }) ≡ refused n (view_of c)
unfolding outcome_of
refused_is c n = refl

module _ (c : Config) (s : ℕ) where
  pub read_none : (r : Answered) → c.nsignals ≤ s → outcome_of r ≡ refused 19 (view_of c) → ReadTo s c r
  unfolding read_of
  read_none r h a M e = rw (le-leb (length M.signals) s (omega arith)) a

  pub read_some : s < c.nsignals → (v : ℕ) → v ≡ get_or c.signals (32 * s) 0
      → ReadTo s c (record { answer = record { refusal = 0; byte = 0; picks = 0; value = v }; config = c })
  unfolding outcome_of read_of
  read_some h v g M e = rw (lt-leb (length M.signals) s (omega arith), past_in c s 0 h (omega arith), add-zero) (rw g)

-- The loop has made n picks from the struct c₀ to the struct c.
pub record Made (M : Model) (which : Picks) (c₀ : Config) (refusal n : ℕ) (c : Config) : Type 0 where
  pub facts : Facts M
  pub before : Valid M c₀
  pub valid : Valid M c
  pub asked : refusal ≡ picks_refusal which c₀.standings c₀.nprocesses
  pub turns : Turns
  pub part : turns ≡ turns_of which refusal
  pub rest : Turned M turns.set turns.stride turns.count c₀.nprocesses turns.first 0 (view_of c₀) (record { picks = n; end = view_of c })

module _ {M : Model} {which : Picks} {c₀ : Config} {refusal n : ℕ} {c : Config} (d : Made M which c₀ refusal n c) where
  total : c.nprocesses ≡ c₀.nprocesses
  total = nprocesses_is M c d.valid.reachable ∙ sym (nprocesses_is M c₀ d.before.reachable)

  whole : c₀.nprocesses ≡ length M.processes
  whole = nprocesses_is M c₀ d.before.reachable

  few : c₀.nprocesses ≤ set_bits
  few = omega (arith, whole, d.facts.totals.processes)

  -- the loop's answer and struct
  abbrev told : Outcome
  told = outcome_of (record { answer = reply_of which refusal c.standings c.faults c.nodes c₀.nprocesses n; config = c })

  -- refused picks leave the struct
  refused_told : (k : ℕ) → eqb k 0 ≡ false → refusal ≡ k → told ≡ refused k (view_of c₀)
  unfolding outcome_of
  refused_told k some e =
      let same = turned_over (rw (d.part, e, some) at d.rest) (omega arith) in
      rw (e, some, ap (λ (s : Settled). s.end) same)

  -- the loop where they are not refused
  ran : (t : Turns) → part_of which ≡ t → refusal ≡ 0 → Turned M t.set t.stride t.count c₀.nprocesses t.first 0 (view_of c₀) (record { picks = n; end = view_of c })
  ran t p e = rw (d.part, e, p) at d.rest

  -- a settle
  module _ (count : ℕ) (e : which ≡ Settle count) where
    free : refusal ≡ 0
    free = rw e at d.asked

    all_turns : record { picks = n; end = view_of c } ≡ settled_from M 0 count (view_of c₀)
    all_turns = turned_settled M (rw (← whole) few) count (rw (← whole) (ran (part_of (Settle count)) (rw e) free))

    still : any_below (λ p. eqb (get_or c.standings p 0) 0) c₀.nprocesses ≡ ltb (lowest_ready M (view_of c)) (length M.processes)
    unfolding lowest_ready
    still =
        any_same (λ p. eqb (get_or c.standings p 0) 0) (λ p. is_ready p (view_of c)) c₀.nprocesses (λ j l. sym (ready_in_lem c j (omega (arith, total))))
        ∙ ap (any_below (λ p. is_ready p (view_of c))) whole
        ∙ any_first (λ p. is_ready p (view_of c)) (length M.processes)

    settle_done_lem : told ≡ settled M count (view_of c₀)
    unfolding outcome_of settled
    settle_done_lem = rw (← all_turns, free, e, still)

  -- a pick
  module _ (p : ℕ) (e : which ≡ One p) where
    -- there is no such process
    pick_none : c₀.nprocesses ≤ p → told ≡ picked M p (view_of c₀)
    unfolding picked
    pick_none h = rw (le-leb (length M.processes) p (omega (arith, whole))) (refused_told 12 refl (rw (e, le-leb c₀.nprocesses p h) at d.asked))

    module _ (h : p < c₀.nprocesses) where
      there : leb (length M.processes) p ≡ false
      there = lt-leb (length M.processes) p (omega (arith, whole))

      number : {b : Bool} → is_ready p (view_of c₀) ≡ b → refusal ≡ (not b ⇒ 13 ∣ 0)
      number w = rw (e, lt-leb c₀.nprocesses p h, ← ready_in_lem c₀ p h, w) at d.asked

      pick_waiting : is_ready p (view_of c₀) ≡ false → told ≡ picked M p (view_of c₀)
      unfolding picked
      pick_waiting w = rw (there, w) (refused_told 13 refl (number w))

      pick_made : is_ready p (view_of c₀) ≡ true → told ≡ picked M p (view_of c₀)
      unfolding outcome_of picked
      pick_made w =
          let same = turned_one (ran (part_of (One p)) (rw e) (number w)) h w (all_in p (omega (arith, few))) in
          let l : p < c.nprocesses = omega (arith, total) in
          rw (e, number w, there, w, ← standing_in c p l, ← fault_in_lem c p l, ← node_in c p l, ap (λ (s : Settled). s.picks) same, ap (λ (s : Settled). s.end) same)

    pick_done_lem : told ≡ picked M p (view_of c₀)
    pick_done_lem =
        ⊎_elim (λ (h : p < c₀.nprocesses). either_way (is_ready p (view_of c₀)) (pick_made h) (pick_waiting h)) (λ (h : c₀.nprocesses ≤ p). pick_none h) (split p c₀.nprocesses)

  -- a pick of a set
  module _ (set : ℕ) (e : which ≡ Set set) where
    abbrev unknown : Bool
    unknown = some_member (leb (length M.processes)) set

    set_unknown : unknown ≡ true → told ≡ picked_set M set (view_of c₀)
    unfolding picked_set set_refusal
    set_unknown u = rw u (refused_told 12 refl (rw (e, whole, u) at d.asked))

    module _ (u : unknown ≡ false) where
      -- a member is there
      member_in : (p : ℕ) → p < set_bits → in_set set p ≡ true → p < c₀.nprocesses
      member_in p h m = omega (arith, whole, leb-false (length M.processes) p (no_member (leb (length M.processes)) set u p h m))

      set_number : {b : Bool} → some_member (λ p. not (is_ready p (view_of c₀))) set ≡ b → refusal ≡ (b ⇒ 13 ∣ 0)
      unfolding set_refusal
      set_number w =
          let same = members_same (λ p. not (ready_in c₀.standings p)) (λ p. not (is_ready p (view_of c₀))) set (λ p h m. ap not (sym (ready_in_lem c₀ p (member_in p h m)))) in
          rw (e, whole, u, same, w) at d.asked

      set_waiting : some_member (λ p. not (is_ready p (view_of c₀))) set ≡ true → told ≡ picked_set M set (view_of c₀)
      unfolding picked_set
      set_waiting w = rw (u, w) (refused_told 13 refl (set_number w))

      set_made : some_member (λ p. not (is_ready p (view_of c₀))) set ≡ false → told ≡ picked_set M set (view_of c₀)
      unfolding outcome_of picked_set is_stopped
      set_made w =
          let same = turned_set M set c₀.nprocesses (view_of c₀) (chosen M set (view_of c₀) u w) few (ran (part_of (Set set)) (rw e) (set_number w)) in
          let (ends, many) = none_above M set (view_of c₀) c₀.nprocesses (λ p l h. either_way (in_set set p) (λ m. absurd (omega (arith, member_in p h m))) (λ m. m)) few in
          let stands = members_same (λ p. eqb (get_or c.standings p 0) 2) (λ p. is_stopped p (view_of c)) set (λ p h m. rw (standing_in c p (omega (arith, total, member_in p h m)))) in
          rw (e, set_number w, u, w, stands, ends, many, ← ap (λ (s : Settled). s.picks) same, ← ap (λ (s : Settled). s.end) same)

    set_done_lem : told ≡ picked_set M set (view_of c₀)
    set_done_lem = either_way unknown set_unknown (λ u. either_way (some_member (λ p. not (is_ready p (view_of c₀))) set) (set_waiting u) (set_made u))

-- what the loop left is what the order asks for
picks_done : {M : Model} (which : Picks) {c₀ : Config} {refusal n : ℕ} {c : Config} (d : Made M which c₀ refusal n c) → told d ≡ picked_by M which (view_of c₀)
picks_done (One p) d = pick_done_lem d p refl
picks_done (Settle k) d = settle_done_lem d k refl
picks_done (Set set) d = set_done_lem d set refl

pub picks_answer : {M : Model} (which : Picks) {c₀ : Config} {refusal n : ℕ} {c : Config} → Made M which c₀ refusal n c
    → (a : Answer) → a ≡ reply_of which refusal c.standings c.faults c.nodes c₀.nprocesses n
    → Answers M (record { answer = a; config = c }) (picked_by M which (view_of c₀))
picks_answer which d a e = record { is = rw e (picks_done which d); valid = d.valid }

-- what an answer tells of a process's fault and node is 16 bits each
pub tellable : {M : Model} → Facts M → {c : Config} → Valid M c → (n : ℕ) → c.nprocesses ≡ n → Tellable c.faults c.nodes n
tellable {M} fs {c} f n e p h =
    let l : p < c.nprocesses = omega arith in
    let there : p < length M.processes = omega (arith, nprocesses_is M c f.reachable) in
    let s = failure_small M fs p (view_of c).time (process_in (view_of c).processes p) (f.reachable.each_process p there) in
    (omega (arith, s.0, fault_in_lem c p l), omega (arith, s.1, node_in c p l))

-- a process that is picked alone, and not refused, is there
pub named : (which : Picks) (standings : List ℕ) (nprocesses refusal : ℕ) → refusal ≡ picks_refusal which standings nprocesses → Named which refusal nprocesses
named which standings nprocesses refusal e p one free =
    ⊎_elim
    (λ (h : p < nprocesses). h)
    (λ (h : nprocesses ≤ p). let late : refusal ≡ 12 = rw (one, le-leb nprocesses p h) at e in absurd (omega arith))
    (split p nprocesses)
