-- Each order hands back a reachable configuration, and what of it an answer tells is small. Assumes nothing.
use mathlib.Core.Path.{◌≡◌}
use mathlib.Core.Logic.{⊎_elim}
use Prim.Native.Nat.{ℕ, zero, suc, ◌≤◌, ◌<◌}
use native.Mathlib.Omega.{arith}
use borrow.Author.Tests.{ltb-true}
use lib.Dec.{ltb}
use lib.ListN.{length}
use Rattle.base.proofs.Cases.{by_test}
use Rattle.base.proofs.Below.{split}
use Rattle.base.proofs.Course.{first_at}
use Rattle.blocks.specs.Records.{Model}
use Rattle.model.specs.Facts.{Facts}
use Rattle.rules.specs.declared.value.Failure.{Failure}
use Rattle.rules.specs.Configuration.{ProcessState, Configuration}
use Rattle.rules.specs.Statements.{stepped}
use Rattle.rules.specs.Orders.{Outcome, is_ready, picked, delta_stepped, time_stepped, lowest_ready, Settled, settled_from, settled, set_bits, picked_set, read_of}
use Rattle.rules.specs.Evaluation.{failure, no_node}
use Rattle.rules.specs.Invariant.{Stopping, ProcessValid, Reachable}
use Rattle.rules.proofs.Outcomes.{Pick, pick_refused, pick_done_lem, pick_is, Delta, delta_refused, delta_done, delta_is, Time, time_refused, time_done, time_is, PickSet, set_refused, set_done_lem, pick_set_is, Read, read_refused, read_done, read_is}
use Rattle.rules.proofs.Sets.{by_members}
use Rattle.rules.proofs.StepReachable.{stepped_reachable}
use Rattle.rules.proofs.AdvanceReachable.{delta_reachable, time_reachable}

-- a fault is at most 4, and its node a number of 16 bits
abbrev pub Small : Failure → Type 0
Small r = (r.fault ≤ 4) × (r.node ≤ 65535)

stopping_small : (M : Model) → Facts M → (r : Failure) → Stopping M r → Small r
stopping_small M fs r s =
    ⊎_elim
    (λ a. let n = a.1 in (⊎_elim (λ e. omega arith) (λ e. omega arith) a.0, omega (arith, fs.totals.nodes)))
    (λ a. ⊎_elim (λ (e : r ≡ failure no_node 2). rw e (omega arith, omega arith)) (λ (e : r ≡ failure no_node 3). rw e (omega arith, omega arith)) a) s

pub failure_small : (M : Model) → Facts M → (p t : ℕ) (q : ProcessState) → ProcessValid M p t q → Small (failure q.node q.fault)
failure_small M fs p t q f =
    ⊎_elim
    (λ (h : q.standing < 2). let r = f.running h in (omega (arith, r.0), omega (arith, r.1)))
    (λ (h : 2 ≤ q.standing). stopping_small M fs _ (f.failed (omega (arith, f.standing)))) (split q.standing 2)

-- of the picks of a settle each is of the lowest ready process
settled_from_lem : (M : Model) → Facts M → (n k : ℕ) (c : Configuration) → Reachable M c → Reachable M (settled_from M k n c).end
unfolding settled_from lowest_ready
settled_from_lem M fs zero k c r = r
settled_from_lem M fs (suc n) k c r =
    by_test (λ (s : Settled). Reachable M s.end) (ltb (lowest_ready M c) (length M.processes)) _ _
    (λ there.
    let p = lowest_ready M c in
    let below = ltb-true _ _ there in
    settled_from_lem M fs n (suc k) (stepped M p c) (stepped_reachable M fs c r p below (first_at (λ p. is_ready p c) (length M.processes) below)))
    (λ none. r)

module _ (M : Model) (fs : Facts M) (c : Configuration) (r : Reachable M c) where
  abbrev Keeps : Outcome → Type 0
  Keeps o = Reachable M o.after

  pick_keeps : (p : ℕ) (o : Outcome) → Pick M c p o → Keeps o
  pick_keeps p o (pick_refused n f) = r
  pick_keeps p o (pick_done_lem h i) = stepped_reachable M fs c r p h i

  pub picked_reachable : (p : ℕ) → Keeps (picked M p c)
  picked_reachable p = pick_keeps p (picked M p c) (pick_is M c p)

  delta_keeps : (o : Outcome) → Delta M c o → Keeps o
  delta_keeps o (delta_refused n f) = r
  delta_keeps o (delta_done quiet running due few) = delta_reachable M fs c r few

  pub delta_step_reachable : Keeps (delta_stepped M c)
  delta_step_reachable = delta_keeps (delta_stepped M c) (delta_is M c)

  time_keeps : (o : Outcome) → Time M c o → Keeps o
  time_keeps o (time_refused n f) = r
  time_keeps o (time_done t quiet due e low) = time_reachable M c r t e low

  pub time_step_reachable : Keeps (time_stepped M c)
  time_step_reachable = time_keeps (time_stepped M c) (time_is M c)

  pub settled_reachable : (n : ℕ) → Keeps (settled M n c)
  unfolding settled
  settled_reachable n = settled_from_lem M fs n 0 c r

  pick_set_keeps : (set : ℕ) (o : Outcome) → PickSet M c set o → Keeps o
  pick_set_keeps set o (set_refused n f) = r
  pick_set_keeps set o (set_done_lem all) =
      by_members M set c all (λ n d. Reachable M d) r (λ n d m there ready before. stepped_reachable M fs d before n there ready) (λ n d m before. before) set_bits (omega arith)

  pub picked_set_reachable : (set : ℕ) → Keeps (picked_set M set c)
  picked_set_reachable set = pick_set_keeps set (picked_set M set c) (pick_set_is M c set)

  read_keeps : (s : ℕ) (o : Outcome) → Read M c s o → Keeps o
  read_keeps s o (read_refused n f) = r
  read_keeps s o (read_done there) = r

  pub read_reachable : (s : ℕ) → Keeps (read_of M s c)
  read_reachable s = read_keeps s (read_of M s c) (read_is M c s)
