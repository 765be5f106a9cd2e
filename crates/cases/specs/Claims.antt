-- The claims over all models and lists of orders, used on the inverter and on models with null and with inertial assignments. Each
-- fact stands with the part of the claim that proves it: a claim with a premise more, or with a part less, is no proof of it.
use Rattle.std.specs.Prelude.{◌≡◌, refl, true, ◌≢◌, List, [], ◌∷◌, ℕ, ◌-◌, ◌≤◌}
use Rattle.std.proofs.Common.{sym, ◌∙◌}
use Rattle.determinacy.specs.Arrangements.{Arranges}
use Rattle.determinacy.specs.Kernel.{Kernel, NormalForm}
use Rattle.determinacy.specs.Determinacy.{Tally, Exactly, Alike, Behind}
use Rattle.blocks.specs.Records.{model_of}
use Rattle.values.specs.Nine.{‘0’, Z}
use Rattle.model.specs.Rules.{refusal_of}
use Rattle.rules.specs.declared.driven.Driven.TheVariants.{Null}
use Rattle.rules.specs.Configuration.{Configuration, first}
use Rattle.rules.specs.Orders.{Outcome, refused}
use Rattle.session.specs.Lists.{order_bytes, performed, answered, played, after}
use Rattle.session.specs.Sessions.{session_of}
use Rattle.session.specs.Demand3.{Bytes, kernel_of, tally_of, Determinate}
use Rattle.session.specs.ListLaws.{ListLaws}
use Rattle.session.specs.SetLaws.{member, set_order, single_picks, SameEnd, SetLaws}
use Rattle.cases.specs.Forms.{pick_order, settle_order, delta_step_order, time_step_order, as_bytes}
use Rattle.cases.specs.Inverter.{inverter, inverter_bytes, inverter_orders, inverter_order_bytes}
use Rattle.cases.specs.Guarded.{shared, shared_bytes, disconnected, swapped, carried}
use Rattle.cases.specs.Inertial.{due, filtered, filtered_bytes, waveforms}

-- a fact, and what proves it: nothing else may stand behind `by`
infix 2 ◌by◌
abbrev pub ◌by◌ : (A : Type 0) → A → Type 0
A by proof = A

-- the bench's list of orders
abbrev pub settling : Bytes
settling = as_bytes inverter_order_bytes refl

-- single picks, process 1 before process 0, and the same advances
abbrev pub picking : Bytes
picking =
    as_bytes
    (order_bytes
    (pick_order 1 ∷ pick_order 0 ∷ pick_order 1 ∷ pick_order 0
    ∷ delta_step_order ∷ time_step_order ∷ delta_step_order
    ∷ pick_order 0 ∷ pick_order 0
    ∷ delta_step_order
    ∷ []))
    refl

-- picks of sets, a single pick and a settle: processes 0 and 1 in step, then process 0 alone
abbrev pub in_step : Bytes
in_step =
    as_bytes
    (order_bytes
    (set_order 3 ∷ set_order 3
    ∷ delta_step_order ∷ time_step_order ∷ delta_step_order
    ∷ set_order 1 ∷ pick_order 0 ∷ set_order 0 ∷ settle_order 10
    ∷ delta_step_order
    ∷ []))
    refl

-- the bench's list up to the second settle, and without it
abbrev pub woken : Bytes
woken = as_bytes (order_bytes (settle_order 10 ∷ delta_step_order ∷ time_step_order ∷ delta_step_order ∷ settle_order 10 ∷ [])) refl

abbrev pub waking : Bytes
waking = as_bytes (order_bytes (settle_order 10 ∷ delta_step_order ∷ time_step_order ∷ delta_step_order ∷ [])) refl

-- on the model of the bytes m, a list comes to p picks and a done advances
pub record Comes (m : List ℕ) (xs : Bytes) (p a : ℕ) : Type 0 where
  pub picks : (tally_of (model_of m) xs).picks ≡ p
  pub advances : (tally_of (model_of m) xs).advances ≡ a

-- and ends with no process ready
pub record Ends (m : List ℕ) (xs : Bytes) (p a : ℕ) : Type 0 where
  pub comes : Comes m xs p a
  pub quiet : NormalForm (kernel_of (model_of m)) (tally_of (model_of m) xs).end

-- what demand 3 says of two lists with equally many advances, where both end with no process ready, and where the first does
module _ (demand3 : Determinate) {m : List ℕ} (accepted : refusal_of m ≡ 0) {a p q : ℕ} where
  abbrev pub alike : (xs ys : Bytes) → Ends m xs p a → Ends m ys q a → Alike (kernel_of (model_of m)) (tally_of (model_of m) xs) (tally_of (model_of m) ys)
  alike xs ys x y = (demand3 m accepted).alike xs ys x.quiet y.quiet (x.comes.advances ∙ sym y.comes.advances)

  abbrev pub behind : (xs ys : Bytes) → Ends m xs p a → Comes m ys q a → Behind (kernel_of (model_of m)) (tally_of (model_of m) xs) (tally_of (model_of m) ys)
  behind xs ys x y = (demand3 m accepted).behind xs ys x.quiet (x.comes.advances ∙ sym y.advances)

abbrev pub kernel : Kernel
kernel = kernel_of (model_of inverter_bytes)

abbrev pub tally : Bytes → Tally Configuration
tally xs = tally_of (model_of inverter_bytes) xs

-- Demand 3 on the inverter
pub record InverterDetermined : Type 0 where
  pub accepted : refusal_of inverter_bytes ≡ 0
  pub demand3 : Determinate
  pub settling_ends : Ends inverter_bytes settling 6 4
  pub picking_ends : Ends inverter_bytes picking 6 4
  pub in_step_ends : Ends inverter_bytes in_step 6 4
  pub woken_ends : Ends inverter_bytes woken 6 3
  pub waking_comes : Comes inverter_bytes waking 4 3
  -- the order and choice of picks changes neither their number nor the end
  pub same_picks : (tally settling).picks ≡ (tally picking).picks by (alike demand3 accepted settling picking settling_ends picking_ends).same_picks
  pub same_end : (tally settling).end ≡ (tally picking).end by (alike demand3 accepted settling picking settling_ends picking_ends).same_end
  -- each process of a set counts as a pick
  pub same_in_step : (tally settling).picks ≡ (tally in_step).picks by (alike demand3 accepted settling in_step settling_ends in_step_ends).same_picks
  pub end_in_step : (tally settling).end ≡ (tally in_step).end by (alike demand3 accepted settling in_step settling_ends in_step_ends).same_end
  -- without its last settle the list is behind by the two picks of process 0, and these lead to the same end
  pub at_most : (tally waking).picks ≤ (tally woken).picks by (behind demand3 accepted woken waking woken_ends waking_comes).at_most
  pub missing : Exactly kernel ((tally woken).picks - (tally waking).picks) (tally waking).end (tally woken).end
      by (behind demand3 accepted woken waking woken_ends waking_comes).still_to_do
  pub two_missing : Exactly kernel 2 (tally waking).end (tally woken).end
  pub first_ready : kernel.ready 0 (tally waking).end ≡ true
  pub second_ready : kernel.ready 0 (kernel.step 0 (tally waking).end) ≡ true
  pub lead_there : kernel.step 0 (kernel.step 0 (tally waking).end) ≡ (tally woken).end
      by ((two_missing.1 0 first_ready).1 0 second_ready).1

-- the orders of the shared bus and register, and the same with process 1 picked first
abbrev pub disconnecting : Bytes
disconnecting = as_bytes (order_bytes disconnected) refl

abbrev pub swapping : Bytes
swapping = as_bytes (order_bytes swapped) refl

-- Demand 3 on the shared bus and register: the order of picks does not change which drivers are off
pub record SharedDetermined : Type 0 where
  pub read : model_of shared_bytes ≡ shared
  pub accepted : refusal_of shared_bytes ≡ 0
  pub demand3 : Determinate
  pub disconnecting_ends : Ends shared_bytes disconnecting 8 3
  pub swapping_ends : Ends shared_bytes swapping 8 3
  pub same_end : (tally_of (model_of shared_bytes) disconnecting).end ≡ (tally_of (model_of shared_bytes) swapping).end
      by (alike demand3 accepted disconnecting swapping disconnecting_ends swapping_ends).same_end
  pub all_off : carried (tally_of (model_of shared_bytes) swapping).end ≡ Null ∷ Null ∷ Null ∷ Null ∷ []

-- the orders of the line with two drivers, and the same with process 1 picked first
abbrev pub filtering : Bytes
filtering = as_bytes (order_bytes (settle_order 10 ∷ time_step_order ∷ [])) refl

abbrev pub filtering_last : Bytes
filtering_last = as_bytes (order_bytes (pick_order 1 ∷ pick_order 0 ∷ pick_order 1 ∷ settle_order 10 ∷ time_step_order ∷ [])) refl

-- Demand 3 on inertial assignments: the order of picks does not change what is pending
pub record FilteredDetermined : Type 0 where
  pub read : model_of filtered_bytes ≡ filtered
  pub accepted : refusal_of filtered_bytes ≡ 0
  pub demand3 : Determinate
  pub filtering_ends : Ends filtered_bytes filtering 5 1
  pub last_ends : Ends filtered_bytes filtering_last 5 1
  pub same_end : (tally_of (model_of filtered_bytes) filtering).end ≡ (tally_of (model_of filtered_bytes) filtering_last).end
      by (alike demand3 accepted filtering filtering_last filtering_ends last_ends).same_end
  pub pending : waveforms (tally_of (model_of filtered_bytes) filtering).end ≡ (due ‘0’ 3 ∷ []) ∷ (due Z 2 ∷ []) ∷ []

-- a delta step before any pick
abbrev pub early : Outcome
early = performed inverter delta_step_order (first inverter)

-- Laws of lists of orders
pub record InverterLaws : Type 0 where
  pub accepted : refusal_of inverter_bytes ≡ 0
  pub laws : ListLaws
  -- it is refused with 14
  pub refusal : early.refusal ≡ 14
  pub not_done : early.refusal ≢ 0
  pub kept : early ≡ refused early.refusal (first inverter) by laws.refused_kept inverter delta_step_order (first inverter) not_done
  pub played_on :
      played inverter (delta_step_order ∷ inverter_orders) (first inverter)
      ≡ answered (refused early.refusal (first inverter)) (played inverter inverter_orders (first inverter))
      by laws.after_refused inverter delta_step_order inverter_orders (first inverter) not_done
  pub no_orders : session_of inverter_bytes [] [] ≡ record { number = 0; end = first (model_of inverter_bytes); buffer = [] }
      by laws.no_orders inverter_bytes accepted

-- process 1 before process 0
abbrev pub last_first : List ℕ
last_first = 1 ∷ 0 ∷ []

-- process 0 is ready and process 1 waits
abbrev pub waiting : Configuration
waiting = after inverter (pick_order 1 ∷ pick_order 1 ∷ [])

-- Laws of picks of sets, and their refusals
pub record InverterSets : Type 0 where
  pub accepted : refusal_of inverter_bytes ≡ 0
  pub laws : SetLaws
  pub arranges : Arranges (member 3) last_first
  pub done : (performed (model_of inverter_bytes) (set_order 3) (after (model_of inverter_bytes) [])).refusal ≡ 0
  pub same : SameEnd (model_of inverter_bytes) (after (model_of inverter_bytes) []) (single_picks last_first) (set_order 3 ∷ [])
      by laws.arranged inverter_bytes accepted [] 3 last_first arranges done
  pub picks : (performed inverter (set_order 3) (first inverter)).picks ≡ 2
  pub empty_set : performed inverter (set_order 0) waiting ≡ record { refusal = 0; byte = 0; picks = 0; value = 0; after = waiting }
      by laws.empty_set inverter waiting
  -- the sets of 0, of 0 and 1, and of 0, 1 and 2, which is not there
  pub one : (performed inverter (set_order 1) waiting).refusal ≡ 0
  pub unready : performed inverter (set_order 3) waiting ≡ refused 13 waiting
  pub unknown : performed inverter (set_order 7) waiting ≡ refused 12 waiting
