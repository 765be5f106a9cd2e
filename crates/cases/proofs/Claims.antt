-- The claims on the inverter, on the shared bus and register and on inertial assignments: their lists are played by computation, and
-- the claims say the rest. Assumes nothing.
use mathlib.Core.Path.{◌≡◌, refl}
use mathlib.Core.Bool.{true, false}
use mathlib.Core.List.{List, [], ◌∷◌}
use mathlib.Core.Logic.{◌≢◌, ⊎_elim}
use Prim.Native.Nat.{ℕ, zero, suc, ◌≤◌, ◌<◌}
use native.Mathlib.Omega.{arith}
use borrow.Author.Tests.{eqb-true, ne_eqb, le-leb, le-ltb}
use lib.Dec.{eqb}
use lib.ListN.{length}
use Rattle.base.specs.Below.{all_below}
use Rattle.base.specs.Cases.{◌∣◌, ◌⇒◌}
use Rattle.base.proofs.Below.{split, all_at}
use Rattle.sets.specs.Sets.{in_set}
use Rattle.determinacy.specs.Arrangements.{occurrences, Arranges}
use Rattle.determinacy.specs.Kernel.{NormalForm}
use Rattle.determinacy.specs.Determinacy.{Exactly}
use Rattle.values.specs.Nine.{‘0’, Z}
use Rattle.blocks.specs.Records.{Model, model_of}
use Rattle.rules.specs.declared.driven.Driven.TheVariants.{Null}
use Rattle.rules.specs.Configuration.{Configuration, first}
use Rattle.rules.specs.Orders.{refused, is_ready, picked}
use Rattle.session.specs.Demand3.{Bytes, picks_of, advances_of, kernel_of, tally_of}
use Rattle.session.proofs.Demand3.{determinate}
use Rattle.session.specs.Lists.{performed, after}
use Rattle.session.specs.SetLaws.{member, set_order}
use Rattle.session.proofs.ListLaws.{list_laws}
use Rattle.session.proofs.SetLaws.{set_laws}
use Rattle.cases.specs.Inverter.{inverter, inverter_bytes}
use Rattle.cases.specs.Guarded.{shared, shared_bytes, carried}
use Rattle.cases.specs.Inertial.{due, filtered, filtered_bytes, waveforms}
use Rattle.cases.specs.Claims.{settling, picking, in_step, woken, waking, kernel, tally, Comes, Ends, alike, behind, InverterDetermined, disconnecting, swapping, SharedDetermined, filtering, filtering_last, FilteredDetermined, early, InverterLaws, last_first, waiting, InverterSets}
use Rattle.cases.proofs.Rules.{the_orders}
use Rattle.cases.proofs.Inverter.{model_read, accepted_inverter}
use Rattle.cases.proofs.Guarded.{shared_read, accepted_shared}
use Rattle.cases.proofs.Inertial.{filtered_read, accepted_filtered}

-- the two processes that are there are not ready, and no other can be picked
quiet_by : (M : Model) → length M.processes ≡ 2 → (c : Configuration) → is_ready 0 c ≡ false → is_ready 1 c ≡ false → NormalForm (kernel_of M) c
unfolding picked
quiet_by M e c h k zero = rw (e, h)
quiet_by M e c h k (suc zero) = rw (e, k)
quiet_by M e c h k (suc (suc p)) = rw (e, le-leb 2 (suc (suc p)) (omega arith))

-- what a list comes to on the model M is what it comes to on its bytes m
module _ {m : List ℕ} {M : Model} (read : model_of m ≡ M) (xs : Bytes) {p a : ℕ} (picks : (tally_of M xs).picks ≡ p) (advances : (tally_of M xs).advances ≡ a) where
  comes : Comes m xs p a
  comes = record { picks = rw read picks; advances = rw read advances }

  ends : length M.processes ≡ 2 → is_ready 0 (tally_of M xs).end ≡ false → is_ready 1 (tally_of M xs).end ≡ false → Ends m xs p a
  ends two h k = record { comes = comes; quiet = rw read (quiet_by M two (tally_of M xs).end h k) }

settling_ends : Ends inverter_bytes settling 6 4
unfolding the_orders inverter picks_of advances_of
settling_ends = ends model_read settling refl refl refl refl refl

picking_ends : Ends inverter_bytes picking 6 4
unfolding the_orders inverter picks_of advances_of
picking_ends = ends model_read picking refl refl refl refl refl

in_step_ends : Ends inverter_bytes in_step 6 4
unfolding the_orders inverter picks_of advances_of
in_step_ends = ends model_read in_step refl refl refl refl refl

woken_ends : Ends inverter_bytes woken 6 3
unfolding the_orders inverter picks_of advances_of
woken_ends = ends model_read woken refl refl refl refl refl

waking_comes : Comes inverter_bytes waking 4 3
unfolding the_orders inverter picks_of advances_of
waking_comes = comes model_read waking refl refl

-- process 0 can be picked twice
first_ready : (kernel_of inverter).ready 0 (tally_of inverter waking).end ≡ true
unfolding the_orders inverter
first_ready = refl

second_ready : (kernel_of inverter).ready 0 ((kernel_of inverter).step 0 (tally_of inverter waking).end) ≡ true
unfolding the_orders inverter
second_ready = refl

pub determined : InverterDetermined
determined =
    let same = alike determinate accepted_inverter settling picking settling_ends picking_ends in
    let stepped = alike determinate accepted_inverter settling in_step settling_ends in_step_ends in
    let late = behind determinate accepted_inverter woken waking woken_ends waking_comes in
    let two : Exactly kernel 2 (tally waking).end (tally woken).end = rw (woken_ends.comes.picks, waking_comes.picks) at late.still_to_do in
    let first : kernel.ready 0 (tally waking).end ≡ true = rw model_read first_ready in
    let second : kernel.ready 0 (kernel.step 0 (tally waking).end) ≡ true = rw model_read second_ready in
    record {
      accepted = accepted_inverter;
      demand3 = determinate;
      settling_ends = settling_ends;
      picking_ends = picking_ends;
      in_step_ends = in_step_ends;
      woken_ends = woken_ends;
      waking_comes = waking_comes;
      same_picks = same.same_picks;
      same_end = same.same_end;
      same_in_step = stepped.same_picks;
      end_in_step = stepped.same_end;
      at_most = late.at_most;
      missing = late.still_to_do;
      two_missing = two;
      first_ready = first;
      second_ready = second;
      lead_there = ((two.1 0 first).1 0 second).1;
    }

disconnecting_ends : Ends shared_bytes disconnecting 8 3
unfolding the_orders shared picks_of advances_of
disconnecting_ends = ends shared_read disconnecting refl refl refl refl refl

swapping_ends : Ends shared_bytes swapping 8 3
unfolding the_orders shared picks_of advances_of
swapping_ends = ends shared_read swapping refl refl refl refl refl

swapped_off : carried (tally_of shared swapping).end ≡ Null ∷ Null ∷ Null ∷ Null ∷ []
unfolding the_orders shared
swapped_off = refl

pub shared_determined : SharedDetermined
shared_determined =
    record {
      read = shared_read;
      accepted = accepted_shared;
      demand3 = determinate;
      disconnecting_ends = disconnecting_ends;
      swapping_ends = swapping_ends;
      same_end = (alike determinate accepted_shared disconnecting swapping disconnecting_ends swapping_ends).same_end;
      all_off = rw shared_read swapped_off;
    }

filtering_ends : Ends filtered_bytes filtering 5 1
unfolding the_orders filtered picks_of advances_of
filtering_ends = ends filtered_read filtering refl refl refl refl refl

last_ends : Ends filtered_bytes filtering_last 5 1
unfolding the_orders filtered picks_of advances_of
last_ends = ends filtered_read filtering_last refl refl refl refl refl

filtered_pending : waveforms (tally_of filtered filtering).end ≡ (due ‘0’ 3 ∷ []) ∷ (due Z 2 ∷ []) ∷ []
unfolding the_orders filtered
filtered_pending = refl

pub filtered_determined : FilteredDetermined
filtered_determined =
    record {
      read = filtered_read;
      accepted = accepted_filtered;
      demand3 = determinate;
      filtering_ends = filtering_ends;
      last_ends = last_ends;
      same_end = (alike determinate accepted_filtered filtering filtering_last filtering_ends last_ends).same_end;
      pending = rw filtered_read filtered_pending;
    }

early_refusal : early.refusal ≡ 14
unfolding the_orders inverter
early_refusal = refl

pub by_laws : InverterLaws
by_laws =
    let refused : early.refusal ≢ 0 = λ z. omega (arith, early_refusal) in
    record {
      accepted = accepted_inverter;
      laws = list_laws;
      refusal = early_refusal;
      not_done = refused;
      kept = list_laws.refused_kept _ _ _ refused;
      played_on = list_laws.after_refused _ _ _ _ refused;
      no_orders = list_laws.no_orders _ accepted_inverter;
    }

-- processes 0 and 1 stand in the list once, the others do not
arranges_few : (p : ℕ) → p < 16 → occurrences p last_first ≡ (member 3 p ⇒ 1 ∣ 0)
unfolding all_below in_set
arranges_few p h = eqb-true _ _ (all_at (λ p. eqb (occurrences p last_first) (member 3 p ⇒ 1 ∣ 0)) 16 p h refl)

arranges : Arranges (member 3) last_first
arranges p =
    ⊎_elim (arranges_few p)
    (λ (h : 16 ≤ p). rw (ne_eqb p 1 (λ e. omega arith), ne_eqb p 0 (λ e. omega arith), le-ltb p 16 h))
    (split p 16)

set_done_lem : (performed inverter (set_order 3) (after inverter [])).refusal ≡ 0
unfolding the_orders inverter
set_done_lem = refl

set_picks : (performed inverter (set_order 3) (first inverter)).picks ≡ 2
unfolding the_orders inverter
set_picks = refl

one_done : (performed inverter (set_order 1) waiting).refusal ≡ 0
unfolding the_orders inverter
one_done = refl

unready_refused : performed inverter (set_order 3) waiting ≡ refused 13 waiting
unfolding the_orders inverter
unready_refused = refl

unknown_refused : performed inverter (set_order 7) waiting ≡ refused 12 waiting
unfolding the_orders inverter
unknown_refused = refl

pub by_set_laws : InverterSets
by_set_laws =
    let done : (performed (model_of inverter_bytes) (set_order 3) (after (model_of inverter_bytes) [])).refusal ≡ 0 = rw model_read set_done_lem in
    record {
      accepted = accepted_inverter;
      laws = set_laws;
      arranges = arranges;
      done = done;
      same = set_laws.arranged inverter_bytes accepted_inverter [] 3 last_first arranges done;
      picks = set_picks;
      empty_set = set_laws.empty_set inverter waiting;
      one = one_done;
      unready = unready_refused;
      unknown = unknown_refused;
    }
