-- A session ends in a configuration that can be reached, so not past the last time. Assumes nothing.
use mathlib.Core.Path.{◌≡◌, sym, ◌∙◌}
use mathlib.Core.Bool.{not}
use mathlib.Core.List.{List, [], ◌∷◌}
use Prim.Native.Nat.{ℕ, ◌≤◌}
use native.Mathlib.Decide.{ℕ_discrete}
use native.Mathlib.Omega.{arith}
use borrow.Author.Tests.{eqb-true}
use lib.Dec.{eqb}
use Rattle.base.proofs.Cases.{by_test}
use Rattle.blocks.specs.Records.{Model, model_of}
use Rattle.model.specs.Facts.{Facts}
use Rattle.model.specs.Rules.{refusal_of}
use Rattle.model.proofs.Facts.{facts}
use Rattle.model.proofs.Rules.{accepted}
use Rattle.rules.specs.Configuration.{Configuration, first, last_time}
use Rattle.rules.specs.Invariant.{Reachable}
use Rattle.rules.specs.Orders.{Outcome}
use Rattle.rules.proofs.FirstReachable.{first_reachable}
use Rattle.rules.proofs.Invariant.{picked_reachable, settled_reachable, picked_set_reachable, delta_step_reachable, time_step_reachable, read_reachable}
use Rattle.session.specs.Lists.{Order, is_known, orders_of, performed, played_by, played}
use Rattle.session.specs.Sessions.{Session, number_of, session_of}
use Rattle.session.proofs.SessionLaws.{model_refused}

module _ (M : Model) (fs : Facts M) where
  abbrev Keeps : Outcome → Type 0
  Keeps r = Reachable M r.after

  pub performed_reachable : (o : Order) (c : Configuration) → Reachable M c → Keeps (performed M o c)
  unfolding performed
  performed_reachable o c r =
      by_test Keeps (not (is_known o)) _ _ (λ e. r)
      (λ e. by_test Keeps (eqb o.kind 1) _ _ (λ k. picked_reachable M fs c r o.argument)
      (λ e. by_test Keeps (eqb o.kind 3) _ _ (λ k. settled_reachable M fs c r o.count)
      (λ e. by_test Keeps (eqb o.kind 5) _ _ (λ k. picked_set_reachable M fs c r o.count)
      (λ e. by_test Keeps (eqb o.kind 6) _ _ (λ k. delta_step_reachable M fs c r)
      (λ e. by_test Keeps (eqb o.kind 7) _ _ (λ k. time_step_reachable M fs c r)
      (λ e. read_reachable M fs c r o.argument))))))

  pub played_reachable : (os : List Order) (c : Configuration) → Reachable M c → Reachable M (played M os c).end
  unfolding played_by
  played_reachable [] c r = r
  played_reachable (o ∷ os) c r = played_reachable os (performed M o c).after (performed_reachable o c r)

module _ (m orders old : List ℕ) where
  pub not_refused : number_of m orders old ≡ 0 → refusal_of m ≡ 0
  not_refused e = elim (ℕ_discrete (refusal_of m) 0) [ yes q ↦ q | no q ↦ sym (model_refused m orders old q) ∙ e ]

  pub ended_in_time : (session_of m orders old).end.time ≤ last_time
  unfolding session_of
  ended_in_time =
      by_test (λ (s : Session). s.end.time ≤ last_time) (eqb (number_of m orders old) 0) _ _
      (λ e.
      let fs = facts (model_of m) (accepted m (not_refused (eqb-true _ _ e))) in
      (played_reachable (model_of m) fs (orders_of orders) (first (model_of m)) (first_reachable (model_of m) fs)).time)
      (λ e. omega arith)
