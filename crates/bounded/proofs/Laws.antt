-- The rules keep the laws of crate `loops`. Assumes nothing.
use mathlib.Core.Path.{◌≡◌}
use mathlib.Core.Bool.{true}
use Prim.Native.Nat.{◌<◌}
use Rattle.loops.specs.Kernel.{Laws}
use Rattle.blocks.specs.Records.{Model}
use Rattle.model.specs.Facts.{Facts}
use Rattle.leads.specs.Leads.{waits_later}
use Rattle.rules.specs.Configuration.{Configuration}
use Rattle.rules.specs.Steps.{time_step}
use Rattle.rules.specs.Orders.{delta_stepped, time_stepped}
use Rattle.rules.specs.Invariant.{Reachable}
use Rattle.rules.proofs.DueTimes.{due_after}
use Rattle.rules.proofs.Invariant.{picked_reachable, delta_step_reachable, time_step_reachable}
use Rattle.bounded.specs.Bounded.{kernel_of}
use Rattle.bounded.proofs.Outcomes.{picks_of, deltas_of, Times, times_of}
use Rattle.bounded.proofs.Wiring.{Due, Expires, wiring_of}
use Rattle.bounded.proofs.Picks.{ready_before, due_before, expires_before, pick_leaves}
use Rattle.bounded.proofs.Deltas.{delta_leaves, why, woken, no_deadline, no_transaction_lem}

time_passes : (M : Model) (c : Configuration) → Reachable M c → Times M c → c.time < (time_stepped M c).after.time
unfolding time_step
time_passes M c s x = rw x.step (due_after M c s x.at x.next x.due)

module _ (M : Model) (fs : Facts M) (later : waits_later M ≡ true) where
  pub laws : Laws (wiring_of M) (kernel_of M)
  laws =
      record {
        Sound = Reachable M;
        Due = Due M;
        Expires = Expires M;
        pick_sound = λ p c s r. picked_reachable M fs c s p;
        delta_sound = λ c s r. delta_step_reachable M fs c s;
        time_sound = λ c s r. time_step_reachable M fs c s;
        pick_there = λ p c s r. (picks_of M c p r).there;
        pick_ready = λ p q c s r h. ready_before M fs c s p (picks_of M c p r) q r h;
        pick_due = λ p k c s r h. due_before M fs c s p (picks_of M c p r) k h;
        pick_expires = λ p q c s r h. expires_before M fs c s p (picks_of M c p r) later q h;
        pick_time = λ p c s r. pick_leaves M fs c s p (picks_of M c p r);
        delta_why = λ c s r. why M c (deltas_of M c r);
        delta_ready = λ q c s r h.
            let x = deltas_of M c r in
            let y = picks_of M (delta_stepped M c).after q h in
            woken M c s x q y.there (rw x.step at y.ready);
        delta_due = λ k c s r h. let x = deltas_of M c r in no_transaction_lem M c s x k (rw x.step at h);
        delta_expires = λ q c s r h. let x = deltas_of M c r in no_deadline M c s x q (rw x.step at h);
        delta_time = λ c s r. delta_leaves M c (deltas_of M c r);
        time_later = λ c s r. time_passes M c s (times_of M c r);
      }

  -- what can be reached is sound
  pub sound : (c : Configuration) → Reachable M c → laws.Sound c
  unfolding laws
  sound c r = r
